-- What the fields of a cache have to do with its device.
use Rattle.std.specs.Prelude.{◌≡◌, ◌<◌, ◌≤◌, ℕ, Bool, false, List, [], ◌∷◌, length, slice_index_or, Option, Some, None}
use Rattle.std.specs.List.{AllByRecursion, Contains}
use Rattle.std.proofs.Props.{props}
use Rattle.fo_disk.specs.Disk.{Versions, latest_of, versions_of}
use Rattle.fo_disk.specs.Disk.{Content as Holds}
use Rattle.fo_buffers.specs.declared.block.Buffer.{Buffer}
use Rattle.fo_buffers.specs.Held.{held_at}
use Rattle.fo_order.specs.declared.marks.Flags.{Flags}
use Rattle.fo_order.specs.declared.marks.Tried.TheVariants.{Settled, Written}
use Rattle.fo_order.specs.Turns.{flag_at}
use Rattle.fo_image.specs.declared.types.Kind.{Kind}
use Rattle.fo_image.specs.declared.types.Kind.TheVariants.{Data, Dir, Root}
use Rattle.fo_image.specs.declared.types.Label.{Label}
use Rattle.fo_image.specs.declared.types.State.{State}
use Rattle.fo_image.specs.declared.types.State.TheVariants.{Free, Live, Closed}
use Rattle.fo_image.specs.Field.{Field, Number, Fixed, Text, FieldFits}
use Rattle.fo_image.specs.Format.{KindHolds, SpellsLabel, StateHolds}
use Rattle.fo_labels.specs.Region.{Region}
use Rattle.fo_labels.specs.Spelled.{SpellsLabels}
use Rattle.fo_mind.specs.Parts.{Parts}

-- Of one data block: it has a version, and one alone where it counts as settled; the last write of one that counts as written answered Ok;
-- and a buffer that isn't dirty, or clean bytes where none is held, are the last version.
pub record FitsAt (b : ℕ) (versions : Versions) (f : Flags) (o : Option Buffer) (clean : List (ℕ × List ℕ)) (unsure : Bool) : Type 0 where
  pub some : 0 < length versions
  pub settled : f.tried ≡ Settled → length versions ≡ 1
  pub sure : f.tried ≡ Written → unsure ≡ false
  pub held : (x : Buffer) → o ≡ Some x → x.dirty ≡ false → latest_of versions ≡ x.block
  pub listed : (bytes : List ℕ) → o ≡ None → Contains clean (b, bytes) → latest_of versions ≡ bytes

-- Each data block that the device tells is so.
pub record Fits (p : Parts) (unsure : List Bool) : Type 0 where
  pub each : (b : ℕ) → p.region.first ≤ b → b < length p.disk → FitsAt b (versions_of p.disk b) (flag_at p.turns b) (held_at p.held b) p.held.clean (slice_index_or unsure b false)

-- Of one block of the label table: it has a version, and one alone where it counts as settled; the last write of one that counts as
-- written answered Ok; and where it has no turn its last version has the labels of memory.
pub record LabelsFitAt (region : Region) (b : ℕ) (versions : Versions) (f : Flags) (unsure : Bool) : Type 0 where
  pub some : 0 < length versions
  pub settled : f.tried ≡ Settled → length versions ≡ 1
  pub sure : f.tried ≡ Written → unsure ≡ false
  pub spelled : f.dirty ≡ false → SpellsLabels region b (latest_of versions)

-- Each block of the label table that the device tells is so.
pub record FitsLabels (p : Parts) (unsure : List Bool) : Type 0 where
  pub each : (b : ℕ) → 2 ≤ b → b < p.region.first → b < length p.disk → LabelsFitAt p.region b (versions_of p.disk b) (flag_at p.turns b) (slice_index_or unsure b false)

-- The device may have these bytes in block 1: those of memory, or those that were last tried, while they are in doubt.
abbrev pub MayBeOne : List ℕ → Option (List ℕ) → List ℕ → Type 0
MayBeOne one None bytes = bytes ≡ one
MayBeOne one (Some tried) bytes = (bytes ≡ one → ⊥) → bytes ≡ tried

-- Each version that the device tells of block 1 is so.
pub record FitsOne (one : List ℕ) (doubt : Option (List ℕ)) (holds : Holds) : Type 0 where
  pub each : (bytes : List ℕ) → 1 < length holds → Contains (versions_of holds 1) bytes → MayBeOne one doubt bytes

may_prop : (one : List ℕ) (doubt : Option (List ℕ)) (bytes : List ℕ) → IsProp (MayBeOne one doubt bytes)
may_prop one None bytes = Prim.hlevel props
may_prop one (Some tried) bytes = Prim.hlevel props

pub one_prop : (one : List ℕ) (doubt : Option (List ℕ)) (holds : Holds) → IsProp (FitsOne one doubt holds)
one_prop one doubt holds = Prim.hlevel (props, may_prop)

at_prop : (b : ℕ) (versions : Versions) (f : Flags) (o : Option Buffer) (clean : List (ℕ × List ℕ)) (unsure : Bool) → IsProp (FitsAt b versions f o clean unsure)
at_prop b versions f o clean unsure = Prim.hlevel props

pub fits_prop : (p : Parts) (unsure : List Bool) → IsProp (Fits p unsure)
fits_prop p unsure = Prim.hlevel (props, at_prop)

kind_prop : (kind : Kind) → IsProp (KindHolds kind)
kind_prop (Data level) = Prim.hlevel props
kind_prop (Dir level) = Prim.hlevel props
kind_prop Root = Prim.hlevel props

state_prop : (state : State) (l : Label) → IsProp (StateHolds state l)
state_prop Free l = Prim.hlevel props
state_prop Live l = Prim.hlevel (props, kind_prop)
state_prop Closed l = Prim.hlevel (props, kind_prop)

field_prop : (f : Field) → IsProp (FieldFits f)
field_prop (Number size n) = Prim.hlevel props
field_prop (Fixed len bytes) = Prim.hlevel props
field_prop (Text bytes) = Prim.hlevel props

all_prop : (fs : List Field) → IsProp (AllByRecursion FieldFits fs)
all_prop [] = Prim.hlevel props
all_prop (f ∷ fs) = let rest = all_prop fs in let first = field_prop f in Prim.hlevel (props, rest, first)

label_prop : (l : Label) (bytes : List ℕ) → IsProp (SpellsLabel l bytes)
label_prop l bytes = Prim.hlevel (props, state_prop, all_prop)

table_prop : (region : Region) (b : ℕ) (bytes : List ℕ) → IsProp (SpellsLabels region b bytes)
table_prop region b bytes = Prim.hlevel (props, label_prop)

labels_at_prop : (region : Region) (b : ℕ) (versions : Versions) (f : Flags) (unsure : Bool) → IsProp (LabelsFitAt region b versions f unsure)
labels_at_prop region b versions f unsure = Prim.hlevel (props, table_prop)

pub labels_prop : (p : Parts) (unsure : List Bool) → IsProp (FitsLabels p unsure)
labels_prop p unsure = Prim.hlevel (props, labels_at_prop)
