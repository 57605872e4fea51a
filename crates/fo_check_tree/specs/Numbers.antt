-- Sources of entries and file numbers, while a tree is walked: rule 8 is broken where it is noted.
use Rattle.std.specs.Prelude.{◌≡◌, ◌⊎◌, ℕ, ◌<◌, ◌≤◌, true, false, List, length, slice_index_or, Option, Some}
use Rattle.std.specs.List.{AllByRecursion}
use Rattle.fo_image.specs.declared.types.Kind.TheVariants.{Data, Dir}
use Rattle.fo_image.specs.declared.types.Entry.{Entry}
use Rattle.fo_image.specs.declared.types.Label.{Label}
use Rattle.fo_image.specs.declared.record.Record.{Record}
use Rattle.fo_crash.specs.declared.slot.Slot.TheVariants.{Entry as Head}
use Rattle.fo_crash.specs.Images.{Image, Arena, Link, depth_of}
use Rattle.fo_good.specs.Trees.{InTree}
use Rattle.fo_good.specs.Sound.{Kept}
use Rattle.fo_check_tree.specs.declared.broken.Broken.{Broken}
use Rattle.fo_check_tree.specs.declared.walk.Folder.{Folder}
use Rattle.fo_check_tree.specs.declared.walk.Step.{Step}
use Rattle.fo_check_names.specs.declared.names.Named.{Named}
use Rattle.fo_check_names.specs.declared.names.Number.{Number}
use Rattle.fo_check_labels.specs.declared.labels.Known.{Known}
use Rattle.fo_check_tree.specs.Answer.{HasRecordAt, NamesNumbers}
use Rattle.fo_check_tree.specs.Lower.{level}
use Rattle.fo_check_tree.specs.Pairing.{IsInEntries}
use Rattle.fo_check_tree.specs.Walking.{Reached}

-- ---- sources of entries

-- A step to a block of another source.
pub record IsDataStep (step : Step) : Type 0 where
  pub down : ℕ
  pub kind : step.kind ≡ Data down

abbrev pub IsWay : Arena → Image → Link → Step → Type 0
IsWay arena image w step = IsInEntries arena image w step ⊎ IsDataStep step

-- The steps are to blocks of one source of entries of the tree, with at least so many others above it, or to those of other sources.
pub record AreBelow (arena : Arena) (image : Image) (k : Kept) (depth : ℕ) (steps : List Step) : Type 0 where
  pub above : ℕ
  pub source : Link
  pub tree : InTree arena image k.at above source
  pub least : depth ≤ above
  pub shallow : depth_of source.slot ≤ 4
  pub kind : source.kind ≡ Dir (depth_of source.slot)
  pub ways : AllByRecursion (IsWay arena image source) steps

-- The folder's entries are a source of entries of the tree, with at least so many others above it, and its records are no entries.
pub record IsSourceIn (arena : Arena) (image : Image) (k : Kept) (f : Folder) : Type 0 where
  pub above : ℕ
  pub source : Link
  pub tree : InTree arena image k.at above source
  pub least : f.depth ≤ above
  pub slot : source.slot ≡ Head f.entries
  pub dir : f.entries.dir ≡ true
  pub kind : source.kind ≡ Dir f.entries.depth
  pub shallow : f.entries.depth ≤ 4
  pub records : (e : Entry) → f.records ≡ Some e → e.dir ≡ false

-- Rule 8 is broken where it is noted, and so is each folder, unless a rule no higher than 8 is noted.
pub record HasSources (arena : Arena) (image : Image) (k : Kept) (numbers : ℕ) (noted : Option Broken) (folders : List Folder) : Type 0 where
  pub names : NamesNumbers arena image k numbers noted
  pub sources : 8 < level noted → AllByRecursion (IsSourceIn arena image k) folders

-- ---- numbers

-- The leaves of the records were not reached before, and are reached now.
pub record AreFresh (before known : List Known) (named : List Named) : Type 0 where
  pub kept : (at : ℕ) (l : Label) → Reached before at l → Reached known at l
  pub fresh : (i : ℕ) (d : Named) → i < length named → (l : Label) → Reached before (slice_index_or named i d).leaf l → ⊥
  pub seen : (i : ℕ) (d : Named) → i < length named → (l : Label) × Reached known (slice_index_or named i d).leaf l

-- The number is that of a record at this place of its leaf, in a directory to which names lead.
pub record IsNumberAt (arena : Arena) (image : Image) (k : Kept) (place : ℕ) (x : Number) : Type 0 where
  pub one : Record
  pub has : HasRecordAt arena image k x.leaf one
  pub place_is : has.place ≡ place
  pub number : one.number ≡ x.number

-- Each number is that of another record, in a leaf that was reached.
pub record AreNumbers (arena : Arena) (image : Image) (k : Kept) (known : List Known) (numbers : List Number) : Type 0 where
  pub place : ℕ → ℕ
  pub each : (i : ℕ) (d : Number) → i < length numbers → IsNumberAt arena image k (place i) (slice_index_or numbers i d)
  pub own : (i j : ℕ) (d : Number) → i < length numbers → j < length numbers → (i ≡ j → ⊥) → (slice_index_or numbers i d).leaf ≡ (slice_index_or numbers j d).leaf → place i ≡ place j → ⊥
  pub seen : (i : ℕ) (d : Number) → i < length numbers → (l : Label) × Reached known (slice_index_or numbers i d).leaf l
