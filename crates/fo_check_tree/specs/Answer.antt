-- What the check of a tree answers of the walk through it: which blocks paths from the root lead to, and at which block a rule is broken.
use Rattle.std.specs.Prelude.{◌≡◌, ◌⊎◌, ℕ, ◌+◌, ◌*◌, ◌/◌, ◌<◌, ◌≤◌, true, List, [], ◌∷◌, ◌++◌, length, Option, Some, MatchOption}
use Rattle.fo_disk.specs.Disk.{Block}
use Rattle.fo_image.specs.declared.types.Kind.{Kind}
use Rattle.fo_image.specs.declared.types.Kind.TheVariants.{Data}
use Rattle.fo_image.specs.declared.types.Entry.{Entry}
use Rattle.fo_image.specs.declared.types.Label.{Label}
use Rattle.fo_image.specs.declared.types.Super.{Super}
use Rattle.fo_image.specs.declared.record.Record.{Record}
use Rattle.fo_image.specs.declared.types.Score.{Score}
use Rattle.fo_image.specs.declared.types.Pointer.TheVariants.{Nil, Local, Score as Held}
use Rattle.fo_crash.specs.declared.slot.Slot.TheVariants.{Pointer as To, Entry as Head, Prev}
use Rattle.fo_crash.specs.Images.{Content, Image, Arena, Link, target, goes, step, leaf_path, nothing, from_block, entry_of as entry_at}
use Rattle.fo_sound.specs.Image.{block_of, IsDataBlock, HasLabel}
use Rattle.fo_sound.specs.Sound.{HasActiveRoot, HasRootEntries}
use Rattle.fo_world.specs.Step.{is_dir_mode}
use Rattle.fo_good.specs.Means.{EndsAt, IsRead, Means}
use Rattle.fo_meta.specs.Leaf.{IsLeaf}
use Rattle.fo_good.specs.Trees.{HasLabelBelow, HasTreeLabels, HasNoScores, HasLeaves, HasPairs, HasNumbers, NamesRecords, IsEntries, InTree, Lists, IsDir, IsSamePlace, HasPair, IsTree, LeadsTo, at_path, place_of}
use Rattle.fo_good.specs.Sound.{Kept, IsSoundTree}
use Rattle.fo_good.specs.Lost.{IsUsed, IsLeaked, AreSoMany}
use Rattle.fo_check_tree.specs.declared.broken.Broken.{Broken}
use Rattle.fo_check_labels.specs.declared.error.TreeError.{TreeError}
use Rattle.fo_check_labels.specs.declared.error.TreeError.TheVariants.{Label as BadLabel, Read, Memory}
use Rattle.fo_check_tree.specs.declared.tree.Found.{Found}
use Rattle.fo_check_tree.specs.Lower.{IsRule, level}
use Rattle.fo_check_tree.specs.Slots.{HasSlots}
use Rattle.fo_check_labels.specs.Table.{BreaksTable}

-- ---- a device's content, whatever its blocks hold

-- The active root's slots are its entries, but for one that is too deep.
abbrev pub IsShallow : Content → ℕ → Entry → Type 0
IsShallow c i e = ((c.slot i ≡ Head e) × (e.depth ≤ 4)) ⊎ ((c.slot i ≡ To Nil) × (4 < e.depth))

-- The image of the device with its active root, over an empty arena. Of blocks to which no path leads only their bytes are asked.
pub record HoldsAny (arena : Arena) (device : List Block) (image : Image) (s : Super) (k : Kept) : Type 0 where
  pub empty : (kind : Kind) (score : Score) → arena kind score ≡ nothing
  pub active : HasActiveRoot device s k.root
  pub at : k.at ≡ s.active
  pub bytes : (at : ℕ) → (image at).bytes ≡ block_of device at
  pub slots : (path : List ℕ) (at : ℕ) (label : Label) → LeadsTo arena image k.at path at → IsDataBlock (length device) at → HasLabel device at label → HasSlots label.kind (image at) (block_of device at)
  pub entries : IsShallow (image k.at) 0 k.root.entries
  pub meta : IsShallow (image k.at) 1 k.root.meta
  pub before : (image k.at).slot 2 ≡ Prev k.root.prev_epoch k.root.prev
  pub ends : EndsAt 3 (image k.at)

-- The same of the active root and of each block's bytes alone: of a sound tree the rest follows.
pub record HoldsRoot (arena : Arena) (device : List Block) (image : Image) (s : Super) (k : Kept) : Type 0 where
  pub empty : (kind : Kind) (score : Score) → arena kind score ≡ nothing
  pub active : HasActiveRoot device s k.root
  pub at : k.at ≡ s.active
  pub bytes : (at : ℕ) → (image at).bytes ≡ block_of device at
  pub entries : IsShallow (image k.at) 0 k.root.entries
  pub meta : IsShallow (image k.at) 1 k.root.meta
  pub before : (image k.at).slot 2 ≡ Prev k.root.prev_epoch k.root.prev
  pub ends : EndsAt 3 (image k.at)

-- ---- rules that are broken, each with the block that is named

-- S4: a block of the tree with a label that it may not have; the block that holds the pointer where that leads to no data block
pub data BreaksLabels (arena : Arena) (device : List Block) (image : Image) (k : Kept) : ℕ → Type 0 where
  outside : (path : List ℕ) (i at below : ℕ) → LeadsTo arena image k.at path at → LeadsTo arena image k.at (path ++ i ∷ []) below → ¬ IsDataBlock (length device) below → BreaksLabels arena device image k at
  label : (path : List ℕ) (i at below : ℕ) (above : Label) → LeadsTo arena image k.at path at → HasLabel device at above → LeadsTo arena image k.at (path ++ i ∷ []) below → IsDataBlock (length device) below
      → ¬ HasLabelBelow device k.root.epoch true (place_of arena image k.at (path ++ i ∷ [])) above below → BreaksLabels arena device image k below

-- S7: a block to which two paths lead
pub data BreaksOnce (arena : Arena) (image : Image) (k : Kept) : ℕ → Type 0 where
  twice : (p q : List ℕ) (at : ℕ) → LeadsTo arena image k.at p at → LeadsTo arena image k.at q at → ¬ (p ≡ q) → BreaksOnce arena image k at

-- S9: a block that holds a score
pub data BreaksScores (arena : Arena) (image : Image) (k : Kept) : ℕ → Type 0 where
  score : (path : List ℕ) (i at : ℕ) (held : Score) → LeadsTo arena image k.at path at → target ((at_path arena image k.at (path ++ i ∷ [])).slot) ≡ Held held → BreaksScores arena image k at

-- What is named is one of the rules of trees; a rule of the walk is broken at that block.
pub record IsNamed (arena : Arena) (image : Image) (k : Kept) (b : Broken) : Type 0 where
  pub rule : IsRule b.rule
  pub once : b.rule ≡ 7 → BreaksOnce arena image k b.block
  pub scores : b.rule ≡ 9 → BreaksScores arena image k b.block

-- ---- blocks at one place

-- No two paths lead to the block.
pub record IsAlone (arena : Arena) (image : Image) (k : Kept) (at : ℕ) : Type 0 where
  pub once : (p q : List ℕ) → LeadsTo arena image k.at p at → LeadsTo arena image k.at q at → p ≡ q

-- Leaf n of a source is in a block at one place.
pub record StandsAlone (arena : Arena) (image : Image) (k : Kept) (w : Link) (n : ℕ) : Type 0 where
  pub block : ℕ
  pub leads : target ((goes arena image w (leaf_path w.slot n)).slot) ≡ Local block
  pub alone : IsAlone arena image k block

-- No two records in leaves of the source that are in blocks at one place have one pair.
pub record HasOwnSlots (arena : Arena) (image : Image) (k : Kept) (meta : Link) : Type 0 where
  pub each : (n j m i : ℕ) (r q : Record) → Lists arena image meta n j r → Lists arena image meta m i q → StandsAlone arena image k meta n → StandsAlone arena image k meta m → r.slot ≡ q.slot → (n ≡ m) × (j ≡ i)

-- All blocks on the way to leaf n of a source are at one place.
pub record IsClear (arena : Arena) (image : Image) (k : Kept) (w : Link) (n : ℕ) : Type 0 where
  pub each : (front rest : List ℕ) (at : ℕ) → leaf_path w.slot n ≡ front ++ rest → target ((goes arena image w front).slot) ≡ Local at → IsAlone arena image k at

-- The directory at a trail of slot pairs, to which records and pairs lead that are in blocks at one place.
pub data IsOwnDir (arena : Arena) (image : Image) (k : Kept) : List ℕ → Link → Link → Type 0 where
  top : IsOwnDir arena image k [] (step arena image (from_block k.at) 0) (step arena image (from_block k.at) 1)
  below : (trail : List ℕ) (entries meta : Link) (n j : ℕ) (r : Record) → IsOwnDir arena image k trail entries meta → Lists arena image meta n j r → StandsAlone arena image k meta n → is_dir_mode r.mode ≡ true → HasPair arena image entries r → StandsAlone arena image k entries (r.slot / 102)
      → IsOwnDir arena image k (trail ++ r.slot ∷ []) (entry_at arena image entries (2 * r.slot)) (entry_at arena image entries (2 * r.slot + 1))

-- ---- names

-- No name stands twice in leaves of the source that are in blocks at one place.
pub record HasOwnNames (arena : Arena) (image : Image) (k : Kept) (meta : Link) : Type 0 where
  pub each : (n j m i : ℕ) (r q : Record) → Lists arena image meta n j r → Lists arena image meta m i q → StandsAlone arena image k meta n → StandsAlone arena image k meta m → r.name ≡ q.name → (n ≡ m) × (j ≡ i)

-- A record of the leaf in this block has a name that another record of the source has.
pub record HasNameTwice (arena : Arena) (image : Image) (meta : Link) (at : ℕ) : Type 0 where
  pub leaf : ℕ
  pub place : ℕ
  pub other_leaf : ℕ
  pub other_place : ℕ
  pub one : Record
  pub other : Record
  pub first : Lists arena image meta leaf place one
  pub second : Lists arena image meta other_leaf other_place other
  pub same : one.name ≡ other.name
  pub apart : ¬ ((leaf ≡ other_leaf) × (place ≡ other_place))
  pub leads : target ((goes arena image meta (leaf_path meta.slot leaf)).slot) ≡ Local at

-- ---- blocks, leaves and names

-- The records of a directory: those of the root, or of a pair the first of which names entries.
pub record AreRecordsOf (arena : Arena) (image : Image) (k : Kept) (meta : Link) : Type 0 where
  pub path : List ℕ
  pub first : ℕ
  pub is : meta ≡ at_path arena image k.at (path ++ (first + 1) ∷ [])
  pub names : NamesRecords arena image k.at path (first + 1)
  pub pair : (path ≡ []) ⊎ IsEntries ((at_path arena image k.at (path ++ first ∷ [])).slot)

-- S5: the root block with an entry that is too deep, a block that is not of its format, a leaf of records that is none, or a leaf with a
-- name that stands elsewhere in its directory
pub data BreaksFormats (arena : Arena) (image : Image) (k : Kept) : ℕ → Type 0 where
  root : (at : ℕ) → at ≡ k.at → (4 < k.root.entries.depth) ⊎ (4 < k.root.meta.depth) → BreaksFormats arena image k at
  block : (path : List ℕ) (at : ℕ) → LeadsTo arena image k.at path at → ¬ IsRead ((at_path arena image k.at path).kind) (image at) ((image at).bytes) → BreaksFormats arena image k at
  leaf : (path more : List ℕ) (i at : ℕ) → NamesRecords arena image k.at path i → (at_path arena image k.at (path ++ i ∷ more)).kind ≡ Data 0 → LeadsTo arena image k.at (path ++ i ∷ more) at → ¬ IsLeaf ((image at).bytes) → BreaksFormats arena image k at
  names : (meta : Link) (at : ℕ) → AreRecordsOf arena image k meta → HasNameTwice arena image meta at → BreaksFormats arena image k at

-- Where rule 5 is named it is broken.
pub record NamesFormats (arena : Arena) (image : Image) (k : Kept) (noted : Option Broken) : Type 0 where
  pub each : (b : Broken) → noted ≡ Some b → b.rule ≡ 5 → BreaksFormats arena image k b.block

-- ---- pairs

-- A record of the leaf in this block has a slot pair that another record of the source has.
pub record HasSlotTwice (arena : Arena) (image : Image) (meta : Link) (at : ℕ) : Type 0 where
  pub leaf : ℕ
  pub place : ℕ
  pub other_leaf : ℕ
  pub other_place : ℕ
  pub one : Record
  pub other : Record
  pub first : Lists arena image meta leaf place one
  pub second : Lists arena image meta other_leaf other_place other
  pub same : one.slot ≡ other.slot
  pub apart : ¬ ((leaf ≡ other_leaf) × (place ≡ other_place))
  pub leads : target ((goes arena image meta (leaf_path meta.slot leaf)).slot) ≡ Local at

-- A record of the leaf in this block has no pair of its own in these entries.
pub record LacksPair (arena : Arena) (image : Image) (entries meta : Link) (at : ℕ) : Type 0 where
  pub leaf : ℕ
  pub place : ℕ
  pub one : Record
  pub lists : Lists arena image meta leaf place one
  pub lacks : ¬ HasPair arena image entries one
  pub leads : target ((goes arena image meta (leaf_path meta.slot leaf)).slot) ≡ Local at

-- S6: the root block with entries that are not those of a root, or a leaf of a directory to which names lead, with a record that has no
-- pair of its own, or one that another record has
pub data BreaksPairs (arena : Arena) (image : Image) (k : Kept) : ℕ → Type 0 where
  root : (at : ℕ) → at ≡ k.at → ¬ HasRootEntries k.root → BreaksPairs arena image k at
  lacks : (trail : List ℕ) (entries meta : Link) (at : ℕ) → IsDir arena image k.at trail entries meta → LacksPair arena image entries meta at → BreaksPairs arena image k at
  twice : (trail : List ℕ) (entries meta : Link) (at : ℕ) → IsDir arena image k.at trail entries meta → HasSlotTwice arena image meta at → BreaksPairs arena image k at

-- Where rule 6 is named it is broken.
pub record NamesPairs (arena : Arena) (image : Image) (k : Kept) (noted : Option Broken) : Type 0 where
  pub each : (b : Broken) → noted ≡ Some b → b.rule ≡ 6 → BreaksPairs arena image k b.block

-- ---- numbers

-- A record of a directory to which names lead stands in the leaf in this block.
pub record HasRecordAt (arena : Arena) (image : Image) (k : Kept) (at : ℕ) (r : Record) : Type 0 where
  pub trail : List ℕ
  pub entries : Link
  pub meta : Link
  pub leaf : ℕ
  pub place : ℕ
  pub dir : IsDir arena image k.at trail entries meta
  pub lists : Lists arena image meta leaf place r
  pub leads : target ((goes arena image meta (leaf_path meta.slot leaf)).slot) ≡ Local at

-- S8: a leaf of entries that names a source of entries with more than 64 others above it, or a leaf of records with a file number that no
-- file may have, or that another record has
pub data BreaksNumbers (arena : Arena) (image : Image) (k : Kept) (numbers : ℕ) : ℕ → Type 0 where
  deep : (above : ℕ) (w : Link) (j at : ℕ) → InTree arena image k.at above w → 64 ≤ above → IsEntries (entry_at arena image w j).slot → target ((goes arena image w (leaf_path w.slot (j / 204))).slot) ≡ Local at → BreaksNumbers arena image k numbers at
  outside : (at : ℕ) (r : Record) → HasRecordAt arena image k at r → ¬ ((0 < r.number) × (r.number < numbers)) → BreaksNumbers arena image k numbers at
  twice : (at other : ℕ) (r q : Record) (a : HasRecordAt arena image k at r) (b : HasRecordAt arena image k other q) → r.number ≡ q.number → ¬ IsSamePlace a.trail a.leaf a.place b.trail b.leaf b.place → BreaksNumbers arena image k numbers at

-- Where rule 8 is named it is broken.
pub record NamesNumbers (arena : Arena) (image : Image) (k : Kept) (numbers : ℕ) (noted : Option Broken) : Type 0 where
  pub each : (b : Broken) → noted ≡ Some b → b.rule ≡ 8 → BreaksNumbers arena image k numbers b.block

-- ---- the walk

-- Every block that a path from the root leads to has a label that may stand at its place, and the numbers are those of the tree. Unless a
-- rule no higher than 5 is named, each block is of its format; unless one no higher than 6, the root's entries are those of a root; unless
-- one no higher than 7, no block is at two places; unless one no higher than 9, no pointer is a score. Where no block is at two places and
-- the root's entries are those of a root, leaves of records are of their format and no name stands twice in a directory, unless a rule no
-- higher than 5 is named. Where no block is at two places each record of a directory to which names lead has its pair, and no two have
-- one, unless a rule no higher than 6 is named; all their numbers differ and are below the limit, and no directory is too deep, unless one
-- no higher than 8 is. The same of leaves, names and pairs is so, whatever else is at two places, of those at one. A report that names no rule says that the tree is sound. The rule that is named is broken at that block.
pub record IsWalked (arena : Arena) (device : List Block) (image : Image) (s : Super) (k : Kept) (found : Found) : Type 0 where
  pub labels : HasTreeLabels arena device image k.at k.root.epoch true
  pub entries : 6 < level found.broken → HasRootEntries k.root
  pub once : 7 < level found.broken → IsTree arena image k.at
  pub formats : 5 < level found.broken → Means arena device image (from_block k.at)
  pub scores : 9 < level found.broken → HasNoScores arena image k.at
  pub leaves : 5 < level found.broken → IsTree arena image k.at → HasRootEntries k.root → HasLeaves arena image k.at
  pub pairs : 6 < level found.broken → IsTree arena image k.at → HasPairs arena image k.at
  pub numbers : 8 < level found.broken → IsTree arena image k.at → HasNumbers arena image k.at s.numbers
  pub own_leaves : 5 < level found.broken → (path more : List ℕ) (i at : ℕ) → NamesRecords arena image k.at path i → (at_path arena image k.at (path ++ i ∷ more)).kind ≡ Data 0 → LeadsTo arena image k.at (path ++ i ∷ more) at → IsAlone arena image k at → IsLeaf ((image at).bytes)
  pub own_names : 5 < level found.broken → (meta : Link) → AreRecordsOf arena image k meta → HasOwnNames arena image k meta
  pub own_slots : 6 < level found.broken → (trail : List ℕ) (entries meta : Link) → IsOwnDir arena image k trail entries meta → HasOwnSlots arena image k meta
  pub own_pairs : 6 < level found.broken → (trail : List ℕ) (entries meta : Link) (n j : ℕ) (r : Record) → IsOwnDir arena image k trail entries meta → Lists arena image meta n j r → StandsAlone arena image k meta n → IsClear arena image k entries (r.slot / 102) → HasPair arena image entries r
  pub named : MatchOption found.broken (IsSoundTree arena device image s.numbers true k) (IsNamed arena image k)
  pub five : NamesFormats arena image k found.broken
  pub six : NamesPairs arena image k found.broken
  pub eight : NamesNumbers arena image k s.numbers found.broken
  pub used : AreSoMany (length device) (IsUsed arena image k []) found.used
  pub leaked : AreSoMany (length device) (IsLeaked arena device image s k []) found.leaked

-- Why a tree was not walked to its end: S4 is broken at that block.
abbrev pub RefusesTree : Arena → List Block → Image → Kept → TreeError → Type 0
RefusesTree arena device image k (BadLabel at) = BreaksLabels arena device image k at
RefusesTree arena device image k Read = Unit {0}
RefusesTree arena device image k Memory = Unit {0}

-- The same of the label table and the tree.
abbrev pub RefusesCheck : Arena → List Block → Image → Kept → TreeError → Type 0
RefusesCheck arena device image k (BadLabel at) = BreaksTable device at ⊎ BreaksLabels arena device image k at
RefusesCheck arena device image k Read = Unit {0}
RefusesCheck arena device image k Memory = Unit {0}
