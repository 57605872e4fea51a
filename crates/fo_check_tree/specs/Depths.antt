-- Sources of entries, while directories are walked: each is left, or is not too deep.
use Rattle.std.specs.Prelude.{◌≡◌, ◌⊎◌, ℕ, ◌+◌, ◌<◌, ◌≤◌, zero, suc, true, List, ◌++◌, length, Option}
use Rattle.fo_image.specs.declared.types.Kind.{Kind}
use Rattle.fo_image.specs.declared.types.Kind.TheVariants.{Data, Dir, Root}
use Rattle.fo_image.specs.declared.types.Pointer.TheVariants.{Local}
use Rattle.fo_crash.specs.declared.slot.Slot.TheVariants.{Entry as Head}
use Rattle.fo_crash.specs.Images.{Content, Image, Arena, Link, target, goes, depth_of, entry_of as entry_at}
use Rattle.fo_good.specs.Trees.{IsTree, IsEntries, InTree}
use Rattle.fo_good.specs.Sound.{Kept}
use Rattle.fo_check_names.specs.Pairs.{is_folder}
use Rattle.fo_check_tree.specs.declared.broken.Broken.{Broken}
use Rattle.fo_check_tree.specs.declared.walk.Folder.{Folder}
use Rattle.fo_check_tree.specs.declared.walk.Step.{Step}
use Rattle.fo_check_tree.specs.Dirs.{link_at}
use Rattle.fo_check_tree.specs.Listing.{SomeOf}
use Rattle.fo_check_tree.specs.Lower.{level}
use Rattle.fo_check_tree.specs.Notes.{KeepsNumbers, NotesFolders}
use Rattle.fo_check_tree.specs.Slots.{entry_of}

-- A leaf of entries names no source that is too deep, unless a rule no higher than 8 is noted.
abbrev pub Deepens : Content → ℕ → Kind → Option Broken → Type 0
Deepens c deep (Data level') noted = Unit {0}
Deepens c deep (Dir zero) noted = 8 < level noted → (i : ℕ) → i < 204 → is_folder (entry_of (c.slot i)) ≡ true → deep ≤ 64
Deepens c deep (Dir (suc level')) noted = Unit {0}
Deepens c deep Root noted = Unit {0}

-- An entry of the block names a source of entries.
pub record HasFolder (c : Content) : Type 0 where
  pub slot : ℕ
  pub within : slot < 204
  pub folder : is_folder (entry_of (c.slot slot)) ≡ true

-- Rule 8 is noted only for a leaf of entries that names a source which is too deep.
abbrev pub NotesDepths : Content → ℕ → ℕ → Kind → Option Broken → Option Broken → Type 0
NotesDepths c deep block (Data level') old new = KeepsNumbers old new
NotesDepths c deep block (Dir zero) old new = NotesFolders (HasFolder c) deep block old new
NotesDepths c deep block (Dir (suc level')) old new = KeepsNumbers old new
NotesDepths c deep block Root old new = KeepsNumbers old new

-- The folder has this source of entries, with so many others above it.
pub record IsSourceOf (deep : ℕ) (w : Link) (f : Folder) : Type 0 where
  pub slot : w.slot ≡ Head f.entries
  pub dir : f.entries.dir ≡ true
  pub kind : w.kind ≡ Dir f.entries.depth
  pub depth : f.depth ≡ deep
  pub low : deep ≤ 64

-- The folders of all sources of entries that a leaf names are left.
pub record IsSpread (image : Image) (at deep : ℕ) (folders : List Folder) : Type 0 where
  pub each : (i : ℕ) → i < 204 → IsEntries ((image at).slot i) → SomeOf (IsSourceOf deep (link_at image at i)) folders

-- A step to a block of a source of entries, on the way to what is at the end of this path.
pub record IsEntriesWay (arena : Arena) (image : Image) (w : Link) (path : List ℕ) (step : Step) : Type 0 where
  pub front : List ℕ
  pub rest : List ℕ
  pub level : ℕ
  pub is : path ≡ front ++ rest
  pub pointer : step.pointer ≡ target ((goes arena image w front).slot)
  pub kind : step.kind ≡ Dir level
  pub depth : length front + level ≡ depth_of w.slot

-- Each leaf of the source is behind a step that is left, or its folders are left.
pub record AreSpread (arena : Arena) (image : Image) (k : Kept) (w : Link) (deep : ℕ) (noted : Option Broken) (steps : List Step) (folders : List Folder) : Type 0 where
  pub whole : 8 < level noted → IsTree arena image k.at → (path : List ℕ) (at : ℕ) → length path ≡ depth_of w.slot → target ((goes arena image w path).slot) ≡ Local at → SomeOf (IsEntriesWay arena image w path) steps ⊎ IsSpread image at deep folders

-- A folder of the source is left, or one of a source above it.
pub data IsAbove (arena : Arena) (image : Image) (folders : List Folder) : ℕ → Link → Type 0 where
  here : (deep : ℕ) (w : Link) → SomeOf (IsSourceOf deep w) folders → IsAbove arena image folders deep w
  below : (deep : ℕ) (w : Link) (j : ℕ) → IsAbove arena image folders deep w → IsEntries (entry_at arena image w j).slot → IsAbove arena image folders (suc deep) (entry_at arena image w j)

-- This is so of each source of entries of the tree, or it is not too deep, where no block is at two places and no rule up to 8 is noted.
pub record AreAbove (arena : Arena) (image : Image) (k : Kept) (noted : Option Broken) (folders : List Folder) : Type 0 where
  pub each : 8 < level noted → IsTree arena image k.at → (deep : ℕ) (w : Link) → InTree arena image k.at deep w → IsAbove arena image folders deep w ⊎ (deep ≤ 64)
