-- The next target of a pointer block, slot by slot.
use Rattle.std.proofs.Common.{◌≡◌, ℕ, ◌+◌, ◌*◌, ◌<◌, Some, List, ◌∷◌, length, drop, suc, refl, ap, ◌∙◌, arith, add-one, drop-cons}
use Rattle.std.specs.List.{slice_range}
use Rattle.fo_image.specs.declared.types.Pointer.{Pointer}
use Rattle.fo_image.specs.declared.types.Pointer.TheVariants.{Nil}
use Rattle.fo_image.specs.Format.{SpellsPointer}
use Rattle.fo_unlink.specs.Closing.{HoldsPointers, target, targets}

-- what was read of a slot is what the block holds there
pub slot_is : (pointers : List Pointer) (block : List ℕ) (slot : ℕ) (p : Pointer) → HoldsPointers pointers block → slot < 409 → ((q : Pointer) → SpellsPointer q (slice_range block (20 * slot) (20 * slot + 20)) → q ≡ p) → drop slot pointers ≡ p ∷ drop (slot + 1) pointers
slot_is pointers block slot p h inside only =
    let within : slot < length pointers = omega (arith, h.count) in
    rw add-one (drop-cons pointers slot Nil within ∙ ap (λ q. q ∷ drop (suc slot) pointers) (only _ (h.spelled slot inside)))

pub targets-some : (pointers : List Pointer) (slot at : ℕ) (p : Pointer) → drop slot pointers ≡ p ∷ drop (slot + 1) pointers → target p ≡ Some at → targets (drop slot pointers) ≡ at ∷ targets (drop (slot + 1) pointers)
targets-some pointers slot at p is some = rw (is, some) refl
