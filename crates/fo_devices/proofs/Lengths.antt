-- How long what memory has of a pinned block is.
use Rattle.std.proofs.Common.{◌≡◌, ℕ, zero, suc, ◌-◌, ◌≤◌, List, ◌++◌, take, drop, length, length-append, length-drop, ap, ◌∙◌, arith}
use Rattle.std.proofs.lemmas.List.{length-take, length-replicate}
use Rattle.fo_disk.specs.Disk.{Content as Holds}
use Rattle.fo_image.specs.declared.types.Kind.{Kind}
use Rattle.fo_image.specs.declared.types.Kind.TheVariants.{Data, Dir, Root}
use Rattle.fo_image.specs.Field.{zeros}
use Rattle.fo_crash.specs.Images.{Content}
use Rattle.fo_ports.specs.Blocks.{slots_from, slots_to}
use Rattle.fo_slots.specs.Read.{blanked}
use Rattle.fo_buffers.specs.Held.{held_at}
use Rattle.fo_settling.specs.of_mind.declared.mind.Mind.{Mind}
use Rattle.fo_settling.specs.of_mind.Laws.{held_content, pinned_held}
use Rattle.fo_settling.specs.of_mind.MindParts.{parts}
use Rattle.fo_settling.specs.of_mind.Parts.{IsPinned, label_at, memory}

record Bounds (kind : Kind) : Type 0 where
  in_order : slots_from kind ≤ slots_to kind
  in_block : slots_to kind ≤ 8192

bounds : (kind : Kind) → Bounds kind
bounds (Data zero) = record { in_order = omega arith; in_block = omega arith }
bounds (Data (suc level)) = record { in_order = omega arith; in_block = omega arith }
bounds (Dir zero) = record { in_order = omega arith; in_block = omega arith }
bounds (Dir (suc level)) = record { in_order = omega arith; in_block = omega arith }
bounds Root = record { in_order = omega arith; in_block = omega arith }

length_zeros : (n : ℕ) → length (zeros n) ≡ n
unfolding zeros
length_zeros n = length-replicate {A = ℕ} n 0

long_blanked : (kind : Kind) (bytes : List ℕ) → length bytes ≡ 8192 → length (blanked kind bytes) ≡ 8192
long_blanked kind bytes len =
    let b = bounds kind in
    let from = slots_from kind in
    let to = slots_to kind in
    omega (arith, length-append (take from bytes) (zeros (to - from) ++ drop to bytes), length-append (zeros (to - from)) (drop to bytes), length_zeros (to - from), length-take from bytes, length-drop to bytes, b.in_order, b.in_block, len)

pub long_pinned : (m : Mind) (disk : Holds) (faults at : ℕ) → IsPinned (parts m disk faults).held at → length ((memory (parts m disk faults) at).bytes) ≡ 8192
long_pinned m disk faults at pinned =
    let p = parts m disk faults in
    let x = pinned_held (held_at p.held at) pinned in
    ap (λ (c : Content). length c.bytes) (held_content p m.first m.count at x.0 m.placed m.holding x.1) ∙ long_blanked (label_at p.region at).kind x.0.block (m.holding.good at x.0 x.1).long
