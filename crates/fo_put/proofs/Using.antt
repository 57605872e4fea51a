-- Who waits for an entry, where its slot is put.
use Rattle.std.proofs.Common.{◌≡◌, ℕ, ◌*◌, ◌/◌, ◌<◌, ◌≤◌, Bool, true, false, Option, Some, sym, ap, ◌∙◌, subst, arith}
use Rattle.std.specs.Option.{option_map_or}
use Rattle.fo_mind.specs.of_buffers.declared.block.Buffer.{Buffer}
use Rattle.fo_mind.specs.of_buffers.Held.{held_at}
use Rattle.fo_crash.specs.declared.slot.Slot.{Slot}
use Rattle.fo_crash.specs.declared.slot.Slot.TheVariants.{Pointer as To, Entry as Head, Prev}
use Rattle.fo_crash.specs.Images.{Content}
use Rattle.fo_crash.specs.Names.{SameUse}
use Rattle.fo_crash.specs.Steps.{cleared}
use Rattle.fo_mind.specs.of_slots.Read.{read}
use Rattle.fo_mind.specs.of_bring.Blocks.{IsData}
use Rattle.fo_mind.specs.of_waits.Listed.{Awaits, Listed, is_active}
use Rattle.fo_mind.specs.Laws.{held_content, held_pinned, some_held}
use Rattle.fo_mind.specs.Parts.{Parts, IsBlock, IsHeld, IsPinned, label_at, memory}
use Rattle.fo_mind.specs.Sound.{Holding, Placed, Waiting}

none_active : false ≡ true → ⊥
none_active e = cc

active_same : (s t : Slot) → SameUse s t → is_active t ≡ true → is_active s ≡ true
active_same (Head e) (Head f) same active = same.1 ∙ active
active_same (Head e) (To q) same active = absurd (none_active active)
active_same (Head e) (Prev m n) same active = absurd (none_active active)
active_same (To q) t same active = subst (λ (s : Slot). is_active s ≡ true) (sym same) active
active_same (Prev m n) t same active = subst (λ (s : Slot). is_active s ≡ true) (sym same) active

active_held : (o : Option Buffer) (x : Buffer) → o ≡ Some x → (f : Buffer → Bool) → option_map_or f o false ≡ true → f x ≡ true
active_held o x e f h = sym (ap (λ (z : Option Buffer). option_map_or f z false) e) ∙ h

-- what is waited for is in use, as memory has it
pub used_now : (p : Parts) (first count at a k : ℕ) → Placed p.region p.turns p.facts first count → Holding p.one.low first count p.region p.held → Waiting p.region p.held p.waits → IsHeld p.held at → Listed p.waits a at k → is_active ((memory p at).slot (2 * k)) ≡ true
used_now p first count at a k placed holding waiting some w =
    let x = some_held (held_at p.held at) some in
    let active = active_held (held_at p.held at) x.0 x.1 (λ (y : Buffer). is_active ((read (label_at p.region at).kind y.block).slot (2 * k))) (waiting.used a at k w) in
    ap (λ (c : Content). is_active (c.slot (2 * k))) (held_content p first count at x.0 placed holding x.1) ∙ active

-- what is waited for is in use still, where its use stays
pub used_same : (p : Parts) (first count at i : ℕ) (slot : Slot) → Placed p.region p.turns p.facts first count → Holding p.one.low first count p.region p.held → Waiting p.region p.held p.waits → IsPinned p.held at → ((a : ℕ) → Awaits p.waits a at i → SameUse slot ((memory p at).slot i)) → (a k : ℕ) → Listed p.waits a at k → i ≡ 2 * k → is_active slot ≡ true
used_same p first count at i slot placed holding waiting pinned same a k w is =
    let half : i / 2 ≡ k = omega (arith, is) in
    active_same slot ((memory p at).slot i) (same a (subst (λ n. Listed p.waits a at n) (sym half) w))
    (ap (λ n. is_active ((memory p at).slot n)) is ∙ used_now p first count at a k placed holding waiting (held_pinned p.held at pinned) w)

-- ---- slots that are cleared

both_ways : {b : Bool} → b ≡ true → b ≡ false → ⊥
both_ways {b} t f = let both : true ≡ false = sym t ∙ f in cc

pub cleared_other : (s : Slot) → SameUse (cleared s) s → is_active s ≡ true → ⊥
cleared_other (Head e) h a = both_ways {b = e.active} a (sym h.1)
cleared_other (To q) h a = cc
cleared_other (Prev m n) h a = cc

-- a data block, as calls on blocks say it
pub data_is : (p : Parts) {first count b : ℕ} → Placed p.region p.turns p.facts first count → IsBlock p b → IsData first count b
data_is p {first} {count} {b} placed is = (subst (λ n. n ≤ b) placed.is_first is.0, subst (λ n. b < n) placed.is_count is.1)
