-- Slots of blocks of pointers, as they are read.
use Rattle.std.proofs.Common.{◌≡◌, ◌*◌, ◌<◌, ℕ, zero, suc, List, take, drop, refl, sym, ap, ◌∙◌, arith}
use Rattle.fo_looks.specs.of_image.declared.types.Kind.{Kind}
use Rattle.fo_looks.specs.of_image.declared.types.Kind.TheVariants.{Data, Dir, Root}
use Rattle.fo_looks.specs.of_image.declared.types.Pointer.{Pointer}
use Rattle.fo_looks.specs.of_image.Format.{SpellsPointer}
use Rattle.fo_looks.specs.of_crash.declared.slot.Slot.{Slot}
use Rattle.fo_looks.specs.of_crash.declared.slot.Slot.TheVariants.{Pointer as To, Entry as Head, Prev}
use Rattle.fo_looks.specs.of_crash.declared.place.Place.{Place}
use Rattle.fo_looks.specs.of_crash.Images.{Content, target}
use Rattle.fo_looks.specs.of_crash.Places.{OnePlace}
use Rattle.fo_looks.specs.of_ports.Blocks.{IsInner, IsPointer, SpellsSlot, ReadsSlots, slot_count, slot_size}
use Rattle.fo_looks.specs.of_ports.State.{State}
use Rattle.fo_tree_read.specs.Tree.{StandsAs}

-- a block stands at one place
pub only_place : {s : State} {kind : Kind} {rank at : ℕ} → OnePlace s.stands → StandsAs s kind rank at → (p : Place) → s.stands at p → (p.kind ≡ kind) × (p.rank ≡ rank)
only_place one is p stands =
    let same = one.each _ p _ stands is.stands in
    (ap (λ (q : Place). q.kind) same ∙ is.has_kind, ap (λ (q : Place). q.rank) same ∙ is.has_rank)

pub slots_inner : (kind : Kind) → IsInner kind → slot_count kind ≡ 409
slots_inner (Data zero) inner = absurd (omega (arith, inner))
slots_inner (Data (suc level)) inner = refl
slots_inner (Dir zero) inner = absurd (omega (arith, inner))
slots_inner (Dir (suc level)) inner = refl
slots_inner Root inner = absurd inner

one_pointer : (s : Slot) (bytes : List ℕ) (p : Pointer) → IsPointer s → SpellsSlot s (take (slot_size s) bytes) → ((q : Pointer) → SpellsPointer q (take 20 bytes) → q ≡ p) → p ≡ target s
one_pointer (To q) bytes p fits spelled only = sym (only q spelled)
one_pointer (Head e) bytes p fits spelled only = absurd fits
one_pointer (Prev epoch at) bytes p fits spelled only = absurd fits

-- the pointer that a slot spells is where it leads
pub slot_pointer : (kind : Kind) → IsInner kind → (c : Content) (bytes : List ℕ) (i : ℕ) → i < 409 → ReadsSlots kind c bytes → (p : Pointer) → ((q : Pointer) → SpellsPointer q (take 20 (drop (20 * i) bytes)) → q ≡ p) → p ≡ target (c.slot i)
slot_pointer (Data zero) inner c bytes i lt reads p only = absurd (omega (arith, inner))
slot_pointer (Data (suc level)) inner c bytes i lt reads p only = one_pointer (c.slot i) (drop (20 * i) bytes) p (reads.fit i lt) (reads.spelled i lt) only
slot_pointer (Dir zero) inner c bytes i lt reads p only = absurd (omega (arith, inner))
slot_pointer (Dir (suc level)) inner c bytes i lt reads p only = one_pointer (c.slot i) (drop (20 * i) bytes) p (reads.fit i lt) (reads.spelled i lt) only
slot_pointer Root inner c bytes i lt reads p only = absurd inner
