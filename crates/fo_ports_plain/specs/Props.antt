-- That each fact that is kept of blocks in memory has at most one proof.
use Rattle.std.specs.Prelude.{ℕ, zero, suc, Bool, true, false, List}
use Rattle.std.proofs.Props.{props}
use Rattle.fo_image.specs.declared.types.Entry.{Entry}
use Rattle.fo_image.specs.declared.types.Kind.{Kind}
use Rattle.fo_image.specs.declared.types.Kind.TheVariants.{Data, Dir, Root}
use Rattle.fo_image.specs.declared.types.Pointer.{Pointer}
use Rattle.fo_image.specs.declared.types.Pointer.TheVariants.{Nil, Local, Score as Held}
use Rattle.fo_image.specs.Format.{PointerHolds, ActiveHolds}
use Rattle.fo_crash.specs.declared.slot.Slot.{Slot}
use Rattle.fo_crash.specs.declared.slot.Slot.TheVariants.{Pointer as To, Entry as Head, Prev}
use Rattle.fo_ports.specs.Blocks.{SlotFits, IsPointer, IsEntry, IsPrev}
use Rattle.fo_ports_plain.specs.declared.block.PlainBlock.{PlainBlock}
use Rattle.fo_ports_plain.specs.declared.wait.Wait.{Wait}
use Rattle.fo_ports_plain.specs.Sound.{Sound, Waiting}

holds_prop : (p : Pointer) → IsProp (PointerHolds p)
holds_prop Nil = Prim.hlevel props
holds_prop (Local at) = Prim.hlevel props
holds_prop (Held score) = Prim.hlevel props

active_prop : (active : Bool) (e : Entry) → IsProp (ActiveHolds active e)
active_prop true e = Prim.hlevel (props, holds_prop)
active_prop false e = Prim.hlevel props

pointer_prop : (s : Slot) → IsProp (IsPointer s)
pointer_prop (To p) = holds_prop p
pointer_prop (Head e) = Prim.hlevel props
pointer_prop (Prev epoch at) = Prim.hlevel props

entry_prop : (s : Slot) → IsProp (IsEntry s)
entry_prop (Head e) = Prim.hlevel (props, active_prop)
entry_prop (To p) = Prim.hlevel props
entry_prop (Prev epoch at) = Prim.hlevel props

prev_prop : (s : Slot) → IsProp (IsPrev s)
prev_prop (Prev epoch at) = Prim.hlevel props
prev_prop (To p) = Prim.hlevel props
prev_prop (Head e) = Prim.hlevel props

slot_prop : (kind : Kind) (i : ℕ) (s : Slot) → IsProp (SlotFits kind i s)
slot_prop (Data level) i s = pointer_prop s
slot_prop (Dir zero) i s = entry_prop s
slot_prop (Dir (suc level)) i s = pointer_prop s
slot_prop Root zero s = entry_prop s
slot_prop Root (suc zero) s = entry_prop s
slot_prop Root (suc (suc i)) s = prev_prop s

pub sound_prop : (blocks : List PlainBlock) (made high root : ℕ) → IsProp (Sound blocks made high root)
sound_prop blocks made high root = Prim.hlevel (props, slot_prop)

pub waiting_prop : (blocks : List PlainBlock) (made : ℕ) (waits : List Wait) → IsProp (Waiting blocks made waits)
waiting_prop blocks made waits = Prim.hlevel props
