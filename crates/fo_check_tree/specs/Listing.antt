-- The records of one directory, while its source of records is walked: which leaves were read, and which are left.
use Rattle.std.specs.Prelude.{◌≡◌, ◌⊎◌, ℕ, ◌+◌, ◌*◌, ◌^◌, ◌<◌, ◌≤◌, zero, suc, List, [], ◌∷◌, ◌++◌, length, map, Option, Some, MatchOption, false}
use Rattle.std.specs.List.{AllByRecursion}
use Rattle.fo_disk.specs.Disk.{Block}
use Rattle.fo_image.specs.declared.types.Kind.{Kind}
use Rattle.fo_image.specs.declared.types.Kind.TheVariants.{Data, Dir, Root}
use Rattle.fo_image.specs.declared.types.Entry.{Entry}
use Rattle.fo_image.specs.declared.types.Label.{Label}
use Rattle.fo_image.specs.declared.types.Pointer.TheVariants.{Local}
use Rattle.fo_image.specs.declared.record.Record.{Record}
use Rattle.fo_crash.specs.declared.slot.Slot.TheVariants.{Entry as Head}
use Rattle.fo_crash.specs.Images.{Image, Arena, Link, target, goes, way, leaf_path, depth_of}
use Rattle.fo_meta.specs.Leaf.{IsLeaf, SpellsLeaf}
use Rattle.fo_good.specs.Trees.{IsWithin, size_of}
use Rattle.fo_good.specs.Sound.{Kept}
use Rattle.fo_check_names.specs.Names.{named_in}
use Rattle.fo_check_names.specs.declared.names.Named.{Named}
use Rattle.fo_check_tree.specs.declared.broken.Broken.{Broken}
use Rattle.fo_check_labels.specs.declared.labels.Known.{Known}
use Rattle.fo_check_tree.specs.declared.walk.Folder.{Folder}
use Rattle.fo_check_tree.specs.declared.walk.Holds.TheVariants.{Records}
use Rattle.fo_check_tree.specs.declared.walk.Step.{Step}
use Rattle.fo_check_tree.specs.Answer.{IsAlone, HasOwnNames, HasNameTwice, HasSlotTwice}
use Rattle.fo_check_tree.specs.Lower.{level}
use Rattle.fo_check_tree.specs.Walking.{Reached}

-- ---- one leaf

-- What a step to a leaf adds: the records that it spells, unless it is a file's, or lies past the size.
pub data AddsNamed (step : Step) (at : ℕ) (bytes : Block) (old new : List Named) : Type 0 where
  none : new ≡ old → (step.holds ≡ Records → IsLeaf bytes → step.size ≤ 8192 * step.index) → AddsNamed step at bytes old new
  some : (records : List Record) → SpellsLeaf records bytes → 8192 * step.index < step.size → new ≡ old ++ map (named_in at) records → AddsNamed step at bytes old new

-- The same of a block of this kind: only a leaf has records, and of leaves of entries nothing is said.
abbrev pub Adds : Step → ℕ → Block → Kind → List Named → List Named → Type 0
Adds step at bytes (Data zero) old new = AddsNamed step at bytes old new
Adds step at bytes (Data (suc level)) old new = new ≡ old
Adds step at bytes (Dir level) old new = Unit {0}
Adds step at bytes Root old new = Unit {0}

-- ---- all leaves

-- Some element of the list is so.
abbrev pub SomeOf : {X : Type 0} → (X → Type 0) → List X → Type 0
SomeOf P [] = ⊥
SomeOf P (x ∷ xs) = P x ⊎ SomeOf P xs

-- a leaf that was read: its number in its source, the path to it there, its block, and its records
pub record Leaf : Type 0 where
  pub index : ℕ
  pub path : List ℕ
  pub block : ℕ
  pub records : List Record

-- It is that leaf of the source of this entry, within the size.
pub record IsLeafIn (arena : Arena) (image : Image) (meta : Link) (v : Leaf) : Type 0 where
  pub leads : target ((goes arena image meta v.path).slot) ≡ Local v.block
  pub path_is : leaf_path meta.slot v.index ≡ v.path
  pub within : IsWithin meta.slot v.index
  pub spelled : SpellsLeaf v.records ((image v.block).bytes)

-- the records of the leaves, the newest leaf first
abbrev pub all_named : List Leaf → List Named
all_named [] = []
all_named (v ∷ leaves) = all_named leaves ++ map (named_in v.block) v.records

-- No block is that of two leaves.
abbrev pub Apart : List Leaf → Type 0
Apart [] = Unit {0}
Apart (v ∷ leaves) = AllByRecursion (λ (u : Leaf). u.block ≡ v.block → ⊥) leaves × Apart leaves

abbrev pub IsSeen : List Known → Leaf → Type 0
IsSeen known v = (l : Label) × Reached known v.block l

-- ---- steps that are left

-- A step to a block of the source, at the end of this path.
pub record IsInSource (arena : Arena) (image : Image) (meta : Link) (step : Step) : Type 0 where
  pub path : List ℕ
  pub level : ℕ
  pub kind : step.kind ≡ Data level
  pub pointer : step.pointer ≡ target ((goes arena image meta path).slot)
  pub depth : length path + level ≡ depth_of meta.slot
  pub index : (more : List ℕ) → way (length path) step.index more ≡ path ++ more
  pub few : step.index < 409 ^ length path
  pub size : step.size ≡ size_of meta.slot
  pub holds : step.holds ≡ Records

-- It is on the way to what is at the end of this path.
pub record IsOnWay (arena : Arena) (image : Image) (meta : Link) (path : List ℕ) (step : Step) : Type 0 where
  pub source : IsInSource arena image meta step
  pub more : List ℕ
  pub is : path ≡ source.path ++ more

-- A leaf of the source within its size, which is of the format.
pub record IsListed (arena : Arena) (image : Image) (meta : Link) (n at : ℕ) : Type 0 where
  pub within : IsWithin meta.slot n
  pub leads : target ((goes arena image meta (leaf_path meta.slot n)).slot) ≡ Local at
  pub leaf : IsLeaf ((image at).bytes)

-- The records that were named are those of the leaves that were read, each once; each leaf in a block at one place was read, or a step on
-- the way to it is left.
pub record IsListing (arena : Arena) (image : Image) (k : Kept) (meta : Link) (known : List Known) (steps : List Step) (named : List Named) : Type 0 where
  pub room : size_of meta.slot ≤ 8192 * 409 ^ depth_of meta.slot
  pub shallow : depth_of meta.slot ≤ 4
  pub leaves : List Leaf
  pub named_is : named ≡ all_named leaves
  pub right : AllByRecursion (IsLeafIn arena image meta) leaves
  pub seen : AllByRecursion (IsSeen known) leaves
  pub apart : Apart leaves
  pub sources : AllByRecursion (IsInSource arena image meta) steps
  pub whole : (n at : ℕ) → IsListed arena image meta n at → IsAlone arena image k at → SomeOf (IsOnWay arena image meta (leaf_path meta.slot n)) steps ⊎ SomeOf (λ (v : Leaf). v.path ≡ leaf_path meta.slot n) leaves

-- ---- names

-- The answer of whether a name stands twice: so it is, or none does in blocks at one place.
abbrev pub JudgesNames : Arena → Image → Kept → Link → Option ℕ → Type 0
JudgesNames arena image k meta answer = MatchOption answer (HasOwnNames arena image k meta) (HasNameTwice arena image meta)

-- Rule 6 is noted for a leaf only where a pair stands twice, or it stood there before.
pub record NotesSlots (arena : Arena) (image : Image) (meta : Link) (old new : Option Broken) : Type 0 where
  pub each : (b : Broken) → new ≡ Some b → b.rule ≡ 6 → (old ≡ Some b) ⊎ ((6 < level old) × HasSlotTwice arena image meta b.block)

-- The source of records of a folder: an entry that is of its format, and whose link is this.
pub record IsMetaOf (f : Folder) (meta : Link) : Type 0 where
  pub entry : Entry
  pub is : f.records ≡ Some entry
  pub slot : meta.slot ≡ Head entry
  pub file : entry.dir ≡ false
  pub kind : meta.kind ≡ Data entry.depth
  pub room : entry.size ≤ 8192 * 409 ^ entry.depth
  pub shallow : entry.depth ≤ 4
