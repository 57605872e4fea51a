-- Slots that are cleared.
use Rattle.std.proofs.Common.{◌≡◌, ℕ, zero, suc, ◌≤◌, refl, arith}
use Rattle.fo_image.specs.declared.types.Kind.{Kind}
use Rattle.fo_image.specs.declared.types.Kind.TheVariants.{Data, Dir, Root}
use Rattle.fo_image.specs.declared.types.Pointer.{Pointer}
use Rattle.fo_image.specs.declared.types.Pointer.TheVariants.{Nil, Local, Score as Stored}
use Rattle.fo_crash.specs.declared.slot.Slot.{Slot}
use Rattle.fo_crash.specs.declared.slot.Slot.TheVariants.{Pointer as To, Entry as Head, Prev}
use Rattle.fo_crash.specs.Images.{target}
use Rattle.fo_crash.specs.Steps.{cleared}
use Rattle.fo_ports.specs.Blocks.{IsEntry, IsPointer, IsPrev, SlotFits, ends}

-- ---- a cleared slot is one that the block can spell, where the slot was

cleared_pointer : (s : Slot) → IsPointer s → IsPointer (cleared s)
cleared_pointer (To p) f = tt
cleared_pointer (Head e) f = absurd f
cleared_pointer (Prev x y) f = absurd f

cleared_entry : (s : Slot) → IsEntry s → IsEntry (cleared s)
cleared_entry (Head e) f = (record { active_holds = (refl, refl, refl, refl, refl) }, omega arith)
cleared_entry (To p) f = absurd f
cleared_entry (Prev x y) f = absurd f

cleared_prev : (s : Slot) → IsPrev s → IsPrev (cleared s)
cleared_prev (Prev x y) f = tt
cleared_prev (To p) f = absurd f
cleared_prev (Head e) f = absurd f

pub cleared_fits : (k : Kind) (i : ℕ) (s : Slot) → SlotFits k i s → SlotFits k i (cleared s)
cleared_fits (Data level) i s f = cleared_pointer s f
cleared_fits (Dir zero) i s f = cleared_entry s f
cleared_fits (Dir (suc level)) i s f = cleared_pointer s f
cleared_fits Root zero s f = cleared_entry s f
cleared_fits Root (suc zero) s f = cleared_entry s f
cleared_fits Root (suc (suc i)) s f = cleared_prev s f

pub ends_one : (old new : Slot) → ends (target old) (target new) ≤ 1
ends_one old new = by (target old) (target new)
  where
    by : (x y : Pointer) → ends x y ≤ 1
    by (Local x) Nil = omega arith
    by (Local x) (Stored score) = omega arith
    by (Local x) (Local y) = omega arith
    by Nil y = omega arith
    by (Stored score) y = omega arith

pub cleared_nowhere : (s : Slot) (b : ℕ) → target (cleared s) ≡ Local b → ⊥
cleared_nowhere (Head e) b h = cc
cleared_nowhere (To q) b h = cc
cleared_nowhere (Prev m n) b h = cc
