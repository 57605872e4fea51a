-- Which blocks are in use, held by snapshots alone, leaked, or lost (the labels and epochs of the Fossil paper, "Fossil, an Archival File
-- Server").
use Rattle.std.specs.Prelude.{◌≡◌, ◌≢◌, ◌⊎◌, ℕ, ◌+◌, ◌-◌, ◌*◌, ◌<◌, ◌≤◌, ◌↔◌, Bool, false, List, ◌∷◌, length, count_by, slice_index_or, IsTrue}
use Rattle.std.specs.List.{Contains}
use Rattle.fo_sound.specs.of_disk.Disk.{Block}
use Rattle.fo_image.specs.declared.types.Label.{Label}
use Rattle.fo_image.specs.declared.types.State.TheVariants.{Live, Closed}
use Rattle.fo_image.specs.declared.types.Super.{Super}
use Rattle.fo_image.specs.declared.types.Pointer.TheVariants.{Local}
use Rattle.fo_image.specs.declared.record.Record.{Record}
use Rattle.fo_image.specs.Place.{first_data}
use Rattle.fo_image.specs.Usable.{is_usable}
use Rattle.fo_crash.specs.Images.{Image, Arena, Link, target, goes, depth_of, entry_of}
use Rattle.fo_sound.specs.Image.{IsDataBlock, HasLabel}
use Rattle.fo_good.specs.Sound.{Kept}
use Rattle.fo_good.specs.Trees.{LeadsTo, IsDir, Lists}

-- ---- used and leaked

-- The tree of a root that is kept reaches the block, or it is such a root.
pub record IsUsed (arena : Arena) (image : Image) (active : Kept) (older : List Kept) (at : ℕ) : Type 0 where
  pub kept : Kept
  pub is_kept : Contains (active ∷ older) kept
  pub path : List ℕ
  pub leads : LeadsTo arena image kept.at path at

-- A data block that is neither used nor usable.
pub record IsLeaked (arena : Arena) (device : List Block) (image : Image) (s : Super) (active : Kept) (older : List Kept) (at : ℕ) : Type 0 where
  pub place : IsDataBlock (length device) at
  pub label : Label
  pub has : HasLabel device at label
  pub taken : is_usable s.low label ≡ false
  pub unused : IsUsed arena image active older at → ⊥

-- So many data blocks are like this.
pub record AreSoMany (blocks : ℕ) (P : ℕ → Type 0) (count : ℕ) : Type 0 where
  pub marks : List Bool
  pub all : length marks ≡ blocks - first_data blocks
  pub each : (k : ℕ) → k < length marks → IsTrue (slice_index_or marks k false) ↔ P (first_data blocks + k)
  pub count_is : count ≡ count_by (λ mark. mark) marks

-- the numbers of a sound image
pub record Numbers : Type 0 where
  pub blocks : ℕ
  pub used : ℕ
  pub leaked : ℕ
  pub snapshots : ℕ

pub record HasCounts (arena : Arena) (device : List Block) (image : Image) (s : Super) (active : Kept) (older : List Kept) (n : Numbers) : Type 0 where
  pub blocks : n.blocks ≡ length device
  pub used : AreSoMany (length device) (IsUsed arena image active older) n.used
  pub leaked : AreSoMany (length device) (IsLeaked arena device image s active older) n.leaked
  pub snapshots : n.snapshots ≡ length older

-- ---- lost

-- a block of the source of this entry
pub record IsOf (arena : Arena) (image : Image) (w : Link) (at : ℕ) : Type 0 where
  pub path : List ℕ
  pub within : length path ≤ depth_of w.slot
  pub leads : target ((goes arena image w path).slot) ≡ Local at

-- A tree reaches the block through names, or it is the root.
pub data IsNamed (arena : Arena) (image : Image) (root at : ℕ) : Type 0 where
  itself : at ≡ root → IsNamed arena image root at
  entries : (trail : List ℕ) (e m : Link) → IsDir arena image root trail e m → IsOf arena image e at → IsNamed arena image root at
  records : (trail : List ℕ) (e m : Link) → IsDir arena image root trail e m → IsOf arena image m at → IsNamed arena image root at
  file : (trail : List ℕ) (e m : Link) (k j : ℕ) (r : Record) → IsDir arena image root trail e m → Lists arena image m k j r → IsOf arena image (entry_of arena image e (2 * r.slot)) at → IsNamed arena image root at

-- The label says that the active tree held the block last in an epoch from the low one on, and was not the one that it was made in: a
-- snapshot may hold it.
pub record IsHeld (s : Super) (label : Label) : Type 0 where
  pub closed : label.state ≡ Closed
  pub above : s.low < label.closing
  pub up_to : label.closing ≤ s.high
  pub kept : label.closing ≢ label.epoch

-- the label of a block that is in use in the active tree: live, or closed at an epoch that is still to come
abbrev pub IsTaken : Super → Label → Type 0
IsTaken s label = (label.state ≡ Live) ⊎ ((label.state ≡ Closed) × (s.high < label.closing) × (label.closing ≢ label.epoch))

-- A block that is lost in an image: in use, and no name leads to it.
pub record IsLostIn (device : List Block) (arena : Arena) (image : Image) (s : Super) (at : ℕ) : Type 0 where
  pub place : IsDataBlock (length device) at
  pub label : Label
  pub has : HasLabel device at label
  pub taken : IsTaken s label
  pub unnamed : IsNamed arena image s.active at → ⊥
