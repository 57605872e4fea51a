-- The tree of a root block in an image: places, labels, directories, records. Snapshots have such trees too.
use Rattle.std.specs.Prelude.{◌≡◌, ℕ, ◌+◌, ◌*◌, ◌/◌, ◌%◌, ◌<◌, ◌≤◌, suc, zero, Bool, true, false, List, [], ◌∷◌, ◌++◌, length}
use Rattle.fo_sound.specs.of_disk.Disk.{Block}
use Rattle.fo_image.specs.declared.types.Kind.{Kind}
use Rattle.fo_image.specs.declared.types.Kind.TheVariants.{Data, Dir, Root}
use Rattle.fo_image.specs.declared.types.State.TheVariants.{Free, Live, Closed}
use Rattle.fo_image.specs.declared.types.Label.{Label}
use Rattle.fo_image.specs.declared.types.Score.{Score}
use Rattle.fo_image.specs.declared.types.Pointer.TheVariants.{Local, Score as Held}
use Rattle.fo_image.specs.declared.record.Record.{Record}
use Rattle.fo_crash.specs.declared.slot.Slot.{Slot}
use Rattle.fo_crash.specs.declared.slot.Slot.TheVariants.{Pointer as To, Entry as Head, Prev}
use Rattle.fo_crash.specs.declared.place.Place.{Place}
use Rattle.fo_crash.specs.Images.{Image, Arena, Link, target, goes, step, found, bytes_at, leaf_path, entry_of, from_block}
use Rattle.fo_crash.specs.Places.{place_below, root_place}
use Rattle.fo_meta.specs.Leaf.{IsLeaf, SpellsLeaf}
use Rattle.fo_world.specs.Step.{is_dir_mode}
use Rattle.fo_sound.specs.Image.{IsDataBlock, HasLabel}

-- the place to which a path leads, by the slots on the way
abbrev pub place_along : Arena → Image → Place → Link → List ℕ → Place
place_along arena image p w [] = p
place_along arena image p w (i ∷ path) = place_along arena image (place_below p i ((found arena image w).slot i)) (step arena image w i) path

-- a path in the tree of a root block, and where it leads
abbrev pub at_path : Arena → Image → ℕ → List ℕ → Link
at_path arena image root path = goes arena image (from_block root) path

abbrev pub place_of : Arena → Image → ℕ → List ℕ → Place
place_of arena image root path = place_along arena image root_place (from_block root) path

-- A path of the tree leads to this block.
abbrev pub LeadsTo : Arena → Image → ℕ → List ℕ → ℕ → Type 0
LeadsTo arena image root path at = target ((at_path arena image root path).slot) ≡ Local at

-- ---- labels along a tree

-- A block at this place, in the tree of this epoch, below a block with that label, may have this label. A snapshot may hold a block
-- that the active tree has closed since.
pub record MayHave (epoch : ℕ) (active : Bool) (p : Place) (above label : Label) : Type 0 where
  pub kind : label.kind ≡ p.kind
  pub tag : label.tag ≡ p.tag
  pub used : label.state ≡ Free → ⊥
  pub falls : label.epoch ≤ above.epoch
  pub begun : label.epoch ≤ epoch
  pub not_closed : label.state ≡ Closed → epoch < label.closing
  pub live : active ≡ true → label.state ≡ Live

-- the label of the block below
pub record HasLabelBelow (device : List Block) (epoch : ℕ) (active : Bool) (p : Place) (above : Label) (below : ℕ) : Type 0 where
  pub place : IsDataBlock (length device) below
  pub label : Label
  pub has : HasLabel device below label
  pub may : MayHave epoch active p above label

-- Wherever a slot of the tree leads to a block, that is a data block with such a label.
pub record HasTreeLabels (arena : Arena) (device : List Block) (image : Image) (root epoch : ℕ) (active : Bool) : Type 0 where
  pub each : (path : List ℕ) (i at below : ℕ) (above : Label) → LeadsTo arena image root path at → HasLabel device at above → LeadsTo arena image root (path ++ i ∷ []) below
      → HasLabelBelow device epoch active (place_of arena image root (path ++ i ∷ [])) above below

-- No block is at two places.
pub record IsTree (arena : Arena) (image : Image) (root : ℕ) : Type 0 where
  pub once : (p q : List ℕ) (at : ℕ) → LeadsTo arena image root p at → LeadsTo arena image root q at → p ≡ q

-- No pointer of the tree is a score.
pub record HasNoScores (arena : Arena) (image : Image) (root : ℕ) : Type 0 where
  pub none : (path : List ℕ) (score : Score) → target ((at_path arena image root path).slot) ≡ Held score → ⊥

-- ---- sources of entries and of records, also those that no name leads to

-- An entry names a source of entries, of records: in use, with and without the directory flag.
abbrev pub IsEntries : Slot → Type 0
IsEntries (Head e) = (e.active ≡ true) × (e.dir ≡ true)
IsEntries (To p) = ⊥
IsEntries (Prev epoch at) = ⊥

abbrev pub IsRecords : Slot → Type 0
IsRecords (Head e) = (e.active ≡ true) × (e.dir ≡ false)
IsRecords (To p) = ⊥
IsRecords (Prev epoch at) = ⊥

-- blocks that hold entries
abbrev pub HoldsEntries : Kind → Type 0
HoldsEntries (Data level) = ⊥
HoldsEntries (Dir zero) = Unit {0}
HoldsEntries (Dir (suc level)) = ⊥
HoldsEntries Root = Unit {0}

-- A path leads to an entry that is the second of a pair and names records.
pub record NamesRecords (arena : Arena) (image : Image) (root : ℕ) (path : List ℕ) (i : ℕ) : Type 0 where
  pub holder : HoldsEntries ((at_path arena image root path).kind)
  pub second : i % 2 ≡ 1
  pub records : IsRecords ((at_path arena image root (path ++ i ∷ [])).slot)

-- a source of entries of the tree, with so many others above it
pub data InTree (arena : Arena) (image : Image) (root : ℕ) : ℕ → Link → Type 0 where
  top : InTree arena image root 0 (step arena image (from_block root) 0)
  below : (depth : ℕ) (w : Link) (j : ℕ) → InTree arena image root depth w → IsEntries (entry_of arena image w j).slot → InTree arena image root (suc depth) (entry_of arena image w j)

-- The records of a directory of the tree: those of the root directory, or of a pair whose first entry names entries and whose second
-- names records.
pub data HasRecords (arena : Arena) (image : Image) (root : ℕ) : Link → Type 0 where
  top : HasRecords arena image root (step arena image (from_block root) 1)
  pair : (depth : ℕ) (w : Link) (k : ℕ) → InTree arena image root depth w → IsEntries (entry_of arena image w (2 * k)).slot → IsRecords (entry_of arena image w (2 * k + 1)).slot → HasRecords arena image root (entry_of arena image w (2 * k + 1))

-- ---- directories that names lead to

abbrev pub size_of : Slot → ℕ
size_of (Head e) = e.size
size_of (To p) = 0
size_of (Prev epoch at) = 0

-- leaf k lies within the size of a source
abbrev pub IsWithin : Slot → ℕ → Type 0
IsWithin s k = 8192 * k < size_of s

-- record j of leaf k, of the leaves within the size of a source of records
pub record Lists (arena : Arena) (image : Image) (meta : Link) (k j : ℕ) (r : Record) : Type 0 where
  pub within : IsWithin meta.slot k
  pub before : List Record
  pub after : List Record
  pub spelled : SpellsLeaf (before ++ r ∷ after) (bytes_at arena image meta (leaf_path meta.slot k))
  pub place : length before ≡ j

-- The directory at a trail of slot pairs has its entries and its records below these two links.
pub data IsDir (arena : Arena) (image : Image) (root : ℕ) : List ℕ → Link → Link → Type 0 where
  top : IsDir arena image root [] (step arena image (from_block root) 0) (step arena image (from_block root) 1)
  below : (trail : List ℕ) (entries meta : Link) (k j : ℕ) (r : Record) → IsDir arena image root trail entries meta → Lists arena image meta k j r → is_dir_mode r.mode ≡ true
      → IsDir arena image root (trail ++ r.slot ∷ []) (entry_of arena image entries (2 * r.slot)) (entry_of arena image entries (2 * r.slot + 1))

abbrev pub IsFirst : Slot → Record → Type 0
IsFirst (Head e) r = (e.active ≡ true) × (e.generation ≡ r.generation) × (e.dir ≡ is_dir_mode r.mode) × (e.tag ≡ 32 + 2 * r.number)
IsFirst (To p) r = ⊥
IsFirst (Prev epoch at) r = ⊥

abbrev pub IsSecond : Slot → Record → Type 0
IsSecond (Head e) r = (e.active ≡ is_dir_mode r.mode) × (e.dir ≡ false) × (e.active ≡ true → e.tag ≡ 33 + 2 * r.number)
IsSecond (To p) r = ⊥
IsSecond (Prev epoch at) r = ⊥

-- A record's slot pair is its own. It lies within the size of the entries: past it, a number of a leaf would name one of those before.
pub record HasPair (arena : Arena) (image : Image) (entries : Link) (r : Record) : Type 0 where
  pub within : IsWithin entries.slot (r.slot / 102)
  pub first : IsFirst (entry_of arena image entries (2 * r.slot)).slot r
  pub second : IsSecond (entry_of arena image entries (2 * r.slot + 1)).slot r

-- the same record of the same directory
abbrev pub IsSamePlace : List ℕ → ℕ → ℕ → List ℕ → ℕ → ℕ → Type 0
IsSamePlace trail k j other m n = (trail ≡ other) × (k ≡ m) × (j ≡ n)

-- S5: leaves of records are of their format, and names differ in each directory, whether or not a name leads to it.
pub record HasLeaves (arena : Arena) (image : Image) (root : ℕ) : Type 0 where
  pub leaves : (path more : List ℕ) (i at : ℕ) → NamesRecords arena image root path i → (at_path arena image root (path ++ i ∷ more)).kind ≡ Data 0 → LeadsTo arena image root (path ++ i ∷ more) at → IsLeaf ((image at).bytes)
  pub names : (meta : Link) (k j m n : ℕ) (r q : Record) → HasRecords arena image root meta → Lists arena image meta k j r → Lists arena image meta m n q → r.name ≡ q.name → (k ≡ m) × (j ≡ n)

-- S6: each record has its pair, and no two have one.
pub record HasPairs (arena : Arena) (image : Image) (root : ℕ) : Type 0 where
  pub fit : (trail : List ℕ) (entries meta : Link) (k j : ℕ) (r : Record) → IsDir arena image root trail entries meta → Lists arena image meta k j r → HasPair arena image entries r
  pub differ : (trail : List ℕ) (entries meta : Link) (k j m n : ℕ) (r q : Record) → IsDir arena image root trail entries meta → Lists arena image meta k j r → Lists arena image meta m n q → r.slot ≡ q.slot → (k ≡ m) × (j ≡ n)

-- S8: file numbers differ in the whole tree, from the root's too, and are below the limit; directories are not too deep, also those
-- that no name leads to, since along every slot of a tree the rank has to fall.
pub record HasNumbers (arena : Arena) (image : Image) (root numbers : ℕ) : Type 0 where
  pub differ : (trail other : List ℕ) (entries meta entries' meta' : Link) (k j m n : ℕ) (r q : Record) → IsDir arena image root trail entries meta → IsDir arena image root other entries' meta' → Lists arena image meta k j r → Lists arena image meta' m n q → r.number ≡ q.number → IsSamePlace trail k j other m n
  pub below : (trail : List ℕ) (entries meta : Link) (k j : ℕ) (r : Record) → IsDir arena image root trail entries meta → Lists arena image meta k j r → (0 < r.number) × (r.number < numbers)
  pub depths : (depth : ℕ) (w : Link) → InTree arena image root depth w → depth ≤ 64
