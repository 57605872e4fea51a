-- One step of the walk: what was left to do before it, and what is left after it.
use Rattle.std.specs.Prelude.{◌≡◌, ℕ, ◌+◌, ◌-◌, ◌^◌, ◌<◌, Option, Bool, zero, suc, min, List, ◌++◌}
use Rattle.fo_disk.specs.Disk.{Block}
use Rattle.fo_image.specs.declared.types.Kind.{Kind}
use Rattle.fo_image.specs.declared.types.Kind.TheVariants.{Data, Dir, Root}
use Rattle.fo_image.specs.declared.types.Label.{Label}
use Rattle.fo_image.specs.declared.types.Score.{Score}
use Rattle.fo_image.specs.declared.types.Pointer.TheVariants.{Nil, Local, Score as Held}
use Rattle.fo_crash.specs.Images.{Content, Image}
use Rattle.fo_good.specs.Means.{IsRead}
use Rattle.fo_sound.specs.Image.{block_of}
use Rattle.fo_check_labels.specs.declared.error.TreeError.{TreeError}
use Rattle.fo_check_labels.specs.declared.error.TreeError.TheVariants.{Label as BadLabel, Read, Memory}
use Rattle.fo_meta.specs.Leaf.{IsLeaf}
use Rattle.fo_check_tree.specs.declared.walk.Folder.{Folder}
use Rattle.fo_check_tree.specs.declared.walk.Holds.TheVariants.{Bytes, Records}
use Rattle.fo_check_tree.specs.declared.walk.Holder.{Holder}
use Rattle.fo_check_tree.specs.declared.walk.Step.{Step}
use Rattle.fo_check_tree.specs.declared.walk.Walk.{Walk}
use Rattle.fo_check_tree.specs.Depths.{Deepens, NotesDepths}
use Rattle.fo_check_labels.specs.Known.{Marks, MarksNone}
use Rattle.fo_check_tree.specs.Listing.{Adds}
use Rattle.fo_check_tree.specs.declared.broken.Broken.{Broken}
use Rattle.fo_check_tree.specs.Lower.{lower, level}
use Rattle.fo_check_tree.specs.Notes.{NotesAt, KeepsFormats}
use Rattle.fo_check_tree.specs.Pairing.{MissesBy, Seeks, AsksOf, LeadsOf}
use Rattle.fo_check_tree.specs.Slots.{HasSlots, steps_of, AddsFolders}
use Rattle.fo_check_tree.specs.Steps.{IsAllowed, BreaksStep}

-- the folders by the slots of a block of this kind: only a leaf of entries has any
abbrev pub Puts : Holder → Content → ℕ → Bool → Kind → List Folder → List Folder → Type 0
Puts here c depth named (Data level) old new = new ≡ old
Puts here c depth named (Dir zero) old new = AddsFolders here c (min (depth + 1) (2 ^ 32 - 1)) named 102 old new
Puts here c depth named (Dir (suc level)) old new = new ≡ old
Puts here c depth named Root old new = new ≡ old

-- A block of this kind is of its format, unless a rule no higher than 5 is noted.
abbrev pub Reads : Kind → Content → Block → Option Broken → Type 0
Reads kind c bytes noted = (kind ≡ Root → ⊥) → HasSlots kind c bytes → c.bytes ≡ bytes → 5 < level noted → IsRead kind c bytes

-- Rule 5 is noted for a block of this kind only if that is not of its format, or as a leaf of records none.
abbrev pub Clean : Step → Content → Block → Option Broken → Option Broken → Type 0
Clean step c bytes old new = IsRead step.kind c bytes → (step.kind ≡ Data 0 → (step.holds ≡ Bytes → ⊥) → IsLeaf bytes) → KeepsFormats old new

-- A step to this block was taken. The block may stand there. Where it was reached before, rule 7 is noted; else it is reached now, and
-- the steps and folders by its slots are left.
pub data Reaches (device : List Block) (image : Image) (depth : ℕ) (named : Bool) (step : Step) (at : ℕ) (old new : Walk) : Type 0 where
  again : (label : Label) → IsAllowed old step at label → MarksNone at old.labels.known.items new.labels.known.items → new.steps.items ≡ old.steps.items → new.folders.items ≡ old.folders.items → new.noted ≡ lower old.noted 7 at → MissesBy step step.kind old.named.items new.named.items
      → Reaches device image depth named step at old new
  enters : (label : Label) → IsAllowed old step at label → Marks at old.labels.known.items new.labels.known.items
      → (HasSlots step.kind (image at) (block_of device at) → new.steps.items ≡ old.steps.items ++ steps_of step (record { block = at; label = label }) (image at) step.kind)
      → (HasSlots step.kind (image at) (block_of device at) → Puts (record { block = at; label = label }) (image at) depth named step.kind old.folders.items new.folders.items)
      → NotesAt at old.noted new.noted
      → Reads step.kind (image at) (block_of device at) new.noted
      → Adds step at (block_of device at) step.kind old.named.items new.named.items
      → (step.kind ≡ Data 0 → step.holds ≡ Records → 5 < level new.noted → IsLeaf (block_of device at))
      → (HasSlots step.kind (image at) (block_of device at) → Seeks step (image at) named step.kind old.named.items new.named.items new.folders.items)
      → (step.kind ≡ Data 0 → step.holds ≡ Bytes → new.named.items ≡ old.named.items)
      → (HasSlots step.kind (image at) (block_of device at) → Deepens (image at) (min (depth + 1) (2 ^ 32 - 1)) step.kind new.noted)
      → Clean step (image at) (block_of device at) old.noted new.noted
      → (HasSlots step.kind (image at) (block_of device at) → AsksOf step (image at) step.kind old.named.items new.named.items)
      → (HasSlots step.kind (image at) (block_of device at) → NotesDepths (image at) (min (depth + 1) (2 ^ 32 - 1)) at step.kind old.noted new.noted)
      → (HasSlots step.kind (image at) (block_of device at) → LeadsOf step (image at) step.kind old.named.items old.folders.items new.folders.items)
      → Reaches device image depth named step at old new

-- A step was taken: it leads nowhere, to a score, for which rule 9 is noted, or to a block.
pub data Follows (device : List Block) (image : Image) (depth : ℕ) (named : Bool) (step : Step) (old new : Walk) : Type 0 where
  nowhere : step.pointer ≡ Nil → new ≡ old → Follows device image depth named step old new
  held : (score : Score) → step.pointer ≡ Held score → new ≡ record old { noted = lower old.noted 9 step.holder.block } → Follows device image depth named step old new
  local : (at : ℕ) → step.pointer ≡ Local at → Reaches device image depth named step at old new → Follows device image depth named step old new

-- Why a step was refused: S4 is broken at that block.
abbrev pub RefusesFollow : Walk → Step → TreeError → Type 0
RefusesFollow walk step (BadLabel block) = (at : ℕ) × (step.pointer ≡ Local at) × BreaksStep walk step at block
RefusesFollow walk step Read = Unit {0}
RefusesFollow walk step Memory = Unit {0}

-- The block itself is not refused.
abbrev pub NotLabel : TreeError → Type 0
NotLabel (BadLabel block) = ⊥
NotLabel Read = Unit {0}
NotLabel Memory = Unit {0}
