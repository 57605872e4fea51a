-- That what is kept of blocks that tell nothing has at most one proof.
use Rattle.std.specs.Prelude.{ℕ, zero, suc, Bool, true, false, List, [], ◌∷◌}
use Rattle.std.specs.List.{AllByRecursion}
use Rattle.std.proofs.Props.{props}
use Rattle.fo_image.specs.Field.{Field, Number, Fixed, Text, FieldFits}
use Rattle.fo_image.specs.declared.types.Entry.{Entry}
use Rattle.fo_image.specs.declared.types.Kind.{Kind}
use Rattle.fo_image.specs.declared.types.Kind.TheVariants.{Data, Dir, Root}
use Rattle.fo_image.specs.declared.types.Pointer.{Pointer}
use Rattle.fo_image.specs.declared.types.Pointer.TheVariants.{Nil, Local, Score as Held}
use Rattle.fo_image.specs.Format.{PointerHolds, ActiveHolds}
use Rattle.fo_crash.specs.declared.slot.Slot.{Slot}
use Rattle.fo_crash.specs.declared.slot.Slot.TheVariants.{Pointer as To, Entry as Head, Prev}
use Rattle.fo_ports.specs.Blocks.{IsLevel, SlotFits, SpellsSlot, IsPointer, IsEntry, IsPrev}
use Rattle.test_blocks.specs.declared.silent.Block.{Block}
use Rattle.test_blocks.specs.declared.silent.Wait.{Wait}
use Rattle.test_blocks.specs.Silent.{Sound, Waiting, HasZeros}

holds_prop : (p : Pointer) → IsProp (PointerHolds p)
holds_prop Nil = Prim.hlevel props
holds_prop (Local at) = Prim.hlevel props
holds_prop (Held score) = Prim.hlevel props

active_prop : (active : Bool) (e : Entry) → IsProp (ActiveHolds active e)
active_prop true e = Prim.hlevel (props, holds_prop)
active_prop false e = Prim.hlevel props

pointer_prop : (s : Slot) → IsProp (IsPointer s)
pointer_prop (To p) = holds_prop p
pointer_prop (Head e) = Prim.hlevel props
pointer_prop (Prev epoch at) = Prim.hlevel props

entry_prop : (s : Slot) → IsProp (IsEntry s)
entry_prop (Head e) = Prim.hlevel (props, active_prop)
entry_prop (To p) = Prim.hlevel props
entry_prop (Prev epoch at) = Prim.hlevel props

prev_prop : (s : Slot) → IsProp (IsPrev s)
prev_prop (Prev epoch at) = Prim.hlevel props
prev_prop (To p) = Prim.hlevel props
prev_prop (Head e) = Prim.hlevel props

slot_prop : (kind : Kind) (i : ℕ) (s : Slot) → IsProp (SlotFits kind i s)
slot_prop (Data level) i s = pointer_prop s
slot_prop (Dir zero) i s = entry_prop s
slot_prop (Dir (suc level)) i s = pointer_prop s
slot_prop Root zero s = entry_prop s
slot_prop Root (suc zero) s = entry_prop s
slot_prop Root (suc (suc i)) s = prev_prop s

fits_prop : (f : Field) → IsProp (FieldFits f)
fits_prop (Number size n) = Prim.hlevel props
fits_prop (Fixed len bytes) = Prim.hlevel props
fits_prop (Text bytes) = Prim.hlevel props

all_prop : (fs : List Field) → IsProp (AllByRecursion FieldFits fs)
all_prop [] = Prim.hlevel props
all_prop (f ∷ fs) = let rest = all_prop fs in let first = fits_prop f in Prim.hlevel (props, rest, first)

spells_prop : (s : Slot) (bytes : List ℕ) → IsProp (SpellsSlot s bytes)
spells_prop (To p) bytes = Prim.hlevel (props, holds_prop, all_prop)
spells_prop (Head e) bytes = Prim.hlevel (props, active_prop, all_prop)
spells_prop (Prev epoch at) bytes = Prim.hlevel props

zeros_prop : (kind : Kind) (bytes : List ℕ) → IsProp (HasZeros kind bytes)
zeros_prop (Data zero) bytes = Prim.hlevel props
zeros_prop (Data (suc level)) bytes = Prim.hlevel props
zeros_prop (Dir level) bytes = Prim.hlevel props
zeros_prop Root bytes = Prim.hlevel props

level_prop : (kind : Kind) → IsProp (IsLevel kind)
level_prop (Data level) = Prim.hlevel props
level_prop (Dir level) = Prim.hlevel props
level_prop Root = Prim.hlevel props

pub sound_prop : (count : ℕ) (blocks : List Block) → IsProp (Sound count blocks)
sound_prop count blocks = Prim.hlevel (props, level_prop, slot_prop, spells_prop, zeros_prop)

pub waiting_prop : (blocks : List Block) (waits : List Wait) → IsProp (Waiting blocks waits)
waiting_prop blocks waits = Prim.hlevel props
