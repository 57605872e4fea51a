-- An image with one leaf of records in the root directory, below a source of this depth with this top.
use Rattle.std.specs.Prelude.{ℕ, Bool, true, false, cond, nat_eq, []}
use Rattle.fo_image.specs.declared.types.Pointer.TheVariants.{Nil, Local}
use Rattle.fo_crash.specs.declared.slot.Slot.{Slot}
use Rattle.fo_crash.specs.declared.slot.Slot.TheVariants.{Pointer as To, Entry as Head}
use Rattle.fo_crash.specs.Images.{Image, to_block}

abbrev pub entry : Bool → ℕ → ℕ → Slot
entry dir depth top = Head (record { generation = 0; active = true; dir = dir; depth = depth; tag = 33; size = 8192; top = Local top })

-- the slots of block 1, of the root block 2 and of block 5, which holds pointers
abbrev pub slots : ℕ → ℕ → ℕ → ℕ → Slot
slots depth top b i =
    cond (nat_eq b 1) (cond (nat_eq i 0) (to_block 2) (To Nil))
    (cond (nat_eq b 2) (cond (nat_eq i 0) (entry true 0 3) (cond (nat_eq i 1) (entry false depth top) (To Nil)))
    (cond (nat_eq b 5) (cond (nat_eq i 0) (to_block 4) (To Nil)) (To Nil)))

abbrev pub example : ℕ → ℕ → Image
example depth top = λ b. record { bytes = []; slot = slots depth top b }
