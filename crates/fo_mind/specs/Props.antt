-- That what holds of the fields of a cache has at most one proof.
use Rattle.std.specs.Prelude.{ℕ, zero, suc, Bool, true, false, List, [], ◌∷◌}
use Rattle.std.specs.List.{AllByRecursion}
use Rattle.std.proofs.Props.{props}
use Rattle.fo_image.specs.Field.{Field, Number, Fixed, Text, FieldFits}
use Rattle.fo_image.specs.declared.types.Entry.{Entry}
use Rattle.fo_image.specs.declared.types.Kind.{Kind}
use Rattle.fo_image.specs.declared.types.Kind.TheVariants.{Data, Dir, Root}
use Rattle.fo_image.specs.declared.types.Pointer.{Pointer}
use Rattle.fo_image.specs.declared.types.Pointer.TheVariants.{Nil, Local, Score as Stored}
use Rattle.fo_image.specs.Format.{PointerHolds, ActiveHolds}
use Rattle.fo_crash.specs.declared.slot.Slot.{Slot}
use Rattle.fo_crash.specs.declared.slot.Slot.TheVariants.{Pointer as To, Entry as Head, Prev}
use Rattle.fo_ports.specs.Blocks.{SlotFits, SpellsSlot, IsPointer, IsEntry, IsPrev}
use Rattle.fo_image.specs.declared.types.Label.{Label}
use Rattle.fo_image.specs.declared.types.Super.{Super}
use Rattle.fo_image.specs.declared.types.State.{State}
use Rattle.fo_image.specs.declared.types.State.TheVariants.{Free, Live, Closed}
use Rattle.fo_image.specs.Format.{KindHolds, SpellsSuper, StateHolds}
use Rattle.fo_buffers.specs.Held.{Held}
use Rattle.fo_order.specs.declared.marks.Flags.{Flags}
use Rattle.fo_buffers.specs.declared.block.Buffer.{Buffer}
use Rattle.std.specs.Prelude.{Option}
use Rattle.fo_order.specs.Keeps.{Turns}
use Rattle.fo_labels.specs.Region.{Region}
use Rattle.fo_facts.specs.declared.fact.Fact.{Fact}
use Rattle.fo_waits.specs.declared.listed.Wait.{Wait}
use Rattle.fo_waits.specs.declared.listed.Clearing.{Clearing}
use Rattle.fo_bring.specs.Blocks.{HasZeros}
use Rattle.fo_mind.specs.Turning.{TurnsAt, Turning}
use Rattle.fo_mind.specs.Sound.{Placed, Rooted, Labelled, Holding, Changing, Waiting, Clearable, Standing, RootIn, Owing, Roomy, Making}

holds_prop : (p : Pointer) → IsProp (PointerHolds p)
holds_prop Nil = Prim.hlevel props
holds_prop (Local at) = Prim.hlevel props
holds_prop (Stored score) = Prim.hlevel props

active_prop : (active : Bool) (e : Entry) → IsProp (ActiveHolds active e)
active_prop true e = Prim.hlevel (props, holds_prop)
active_prop false e = Prim.hlevel props

pointer_prop : (s : Slot) → IsProp (IsPointer s)
pointer_prop (To p) = holds_prop p
pointer_prop (Head e) = Prim.hlevel props
pointer_prop (Prev epoch at) = Prim.hlevel props

entry_prop : (s : Slot) → IsProp (IsEntry s)
entry_prop (Head e) = Prim.hlevel (props, active_prop)
entry_prop (To p) = Prim.hlevel props
entry_prop (Prev epoch at) = Prim.hlevel props

prev_prop : (s : Slot) → IsProp (IsPrev s)
prev_prop (Prev epoch at) = Prim.hlevel props
prev_prop (To p) = Prim.hlevel props
prev_prop (Head e) = Prim.hlevel props

slot_prop : (kind : Kind) (i : ℕ) (s : Slot) → IsProp (SlotFits kind i s)
slot_prop (Data level) i s = pointer_prop s
slot_prop (Dir zero) i s = entry_prop s
slot_prop (Dir (suc level)) i s = pointer_prop s
slot_prop Root zero s = entry_prop s
slot_prop Root (suc zero) s = entry_prop s
slot_prop Root (suc (suc i)) s = prev_prop s

fits_prop : (f : Field) → IsProp (FieldFits f)
fits_prop (Number size n) = Prim.hlevel props
fits_prop (Fixed len bytes) = Prim.hlevel props
fits_prop (Text bytes) = Prim.hlevel props

all_prop : (fs : List Field) → IsProp (AllByRecursion FieldFits fs)
all_prop [] = Prim.hlevel props
all_prop (f ∷ fs) = let rest = all_prop fs in let first = fits_prop f in Prim.hlevel (props, rest, first)

spells_prop : (s : Slot) (bytes : List ℕ) → IsProp (SpellsSlot s bytes)
spells_prop (To p) bytes = Prim.hlevel (props, holds_prop, all_prop)
spells_prop (Head e) bytes = Prim.hlevel (props, active_prop, all_prop)
spells_prop (Prev epoch at) bytes = Prim.hlevel props

zeros_prop : (kind : Kind) (bytes : List ℕ) → IsProp (HasZeros kind bytes)
zeros_prop (Data zero) bytes = Prim.hlevel props
zeros_prop (Data (suc level)) bytes = Prim.hlevel props
zeros_prop (Dir level) bytes = Prim.hlevel props
zeros_prop Root bytes = Prim.hlevel props

kind_prop : (kind : Kind) → IsProp (KindHolds kind)
kind_prop (Data level) = Prim.hlevel props
kind_prop (Dir level) = Prim.hlevel props
kind_prop Root = Prim.hlevel props

state_prop : (state : State) (l : Label) → IsProp (StateHolds state l)
state_prop Free l = Prim.hlevel props
state_prop Live l = Prim.hlevel (props, kind_prop)
state_prop Closed l = Prim.hlevel (props, kind_prop)

pub super_prop : (one : Super) (bytes : List ℕ) → IsProp (SpellsSuper one bytes)
super_prop one bytes = Prim.hlevel (props, all_prop)

pub placed_prop : (region : Region) (turns : Turns) (facts : List Fact) (first count : ℕ) → IsProp (Placed region turns facts first count)
placed_prop region turns facts first count = Prim.hlevel props

pub rooted_prop : (first count : ℕ) (one : Super) → IsProp (Rooted first count one)
rooted_prop first count one = Prim.hlevel props

pub labelled_prop : (region : Region) → IsProp (Labelled region)
labelled_prop region = Prim.hlevel (props, state_prop)

pub holding_prop : (low first count : ℕ) (region : Region) (held : Held) → IsProp (Holding low first count region held)
holding_prop low first count region held = Prim.hlevel (props, slot_prop, spells_prop, zeros_prop)

pub changing_prop : (high : ℕ) (region : Region) (held : Held) → IsProp (Changing high region held)
changing_prop high region held = Prim.hlevel props

pub clearable_prop : (region : Region) (low high : ℕ) (clears : List Clearing) → IsProp (Clearable region low high clears)
clearable_prop region low high clears = Prim.hlevel props

pub standing_prop : (held : Held) (facts : List Fact) (clears : List Clearing) → IsProp (Standing held facts clears)
standing_prop held facts clears = Prim.hlevel props

pub root_in_prop : (low : ℕ) (region : Region) (facts : List Fact) (root : ℕ) → IsProp (RootIn low region facts root)
root_in_prop low region facts root = Prim.hlevel props

pub waiting_prop : (region : Region) (held : Held) (waits : List Wait) → IsProp (Waiting region held waits)
waiting_prop region held waits = Prim.hlevel props

pub owing_prop : (held : Held) (turns : Turns) (facts : List Fact) → IsProp (Owing held turns facts)
owing_prop held turns facts = Prim.hlevel props

pub roomy_prop : (held : Held) (turns : Turns) (region : Region) (facts : List Fact) (low spare pins more : ℕ) → IsProp (Roomy held turns region facts low spare pins more)
roomy_prop held turns region facts low spare pins more = Prim.hlevel props

pub making_prop : (facts : List Fact) (spare more links removals : ℕ) → IsProp (Making facts spare more links removals)
making_prop facts spare more links removals = Prim.hlevel props

turns_at_prop : (first b : ℕ) (o : Option Buffer) (f : Flags) (linked : Bool) → IsProp (TurnsAt first b o f linked)
turns_at_prop first b o f linked = Prim.hlevel props

pub turning_prop : (first : ℕ) (held : Held) (turns : Turns) (facts : List Fact) → IsProp (Turning first held turns facts)
turning_prop first held turns facts = Prim.hlevel (props, turns_at_prop)
