-- How a block of the label table has the labels of memory.
use Rattle.std.specs.Prelude.{◌≡◌, ◌≢◌, ℕ, ◌+◌, ◌*◌, ◌<◌, cond, nat_lt, List, length, take, drop, replicate}
use Rattle.fo_image.specs.declared.types.Label.{Label}
use Rattle.fo_image.specs.Format.{LabelHolds, SpellsLabel}
use Rattle.fo_image.specs.Place.{label_block, label_byte}
use Rattle.fo_image.specs.Usable.{free_label}
use Rattle.fo_labels.specs.Region.{IsDataBlock, Region, label_of}

-- the label of an address: what is no data block counts as free
abbrev pub label_at : Region → ℕ → Label
label_at r at = cond (nat_lt at r.first) free_label (label_of r at)

-- the 14 bytes at a place of a block
abbrev pub part_at : ℕ → List ℕ → List ℕ
part_at from bytes = take 14 (drop from bytes)

-- Each data block has a label that can be spelled.
pub record AreLabels (r : Region) : Type 0 where
  pub each : (at : ℕ) → IsDataBlock r at → LabelHolds (label_of r at)

-- The bytes of a block of the label table: the label of each address that has its label there, and two zeros.
pub record SpellsLabels (r : Region) (at : ℕ) (bytes : List ℕ) : Type 0 where
  pub long : length bytes ≡ 8192
  pub each : (address : ℕ) → label_block address ≡ at → SpellsLabel (label_at r address) (part_at (label_byte address) bytes)
  pub rest : drop 8190 bytes ≡ replicate 2 0

-- ---- one after the other

-- The first so many labels from an address on stand in their places.
pub record StartsLabels (r : Region) (first count : ℕ) (bytes : List ℕ) : Type 0 where
  pub long : length bytes ≡ 8192
  pub each : (i : ℕ) → i < count → SpellsLabel (label_at r (first + i)) (part_at (14 * i) bytes)
  pub rest : drop 8190 bytes ≡ replicate 2 0

-- A label was put into its place, and nothing else changed.
pub record PutsLabel (l : Label) (place : ℕ) (old new : List ℕ) : Type 0 where
  pub long : length new ≡ length old
  pub here : SpellsLabel l (part_at (14 * place) new)
  pub others : (i : ℕ) → i ≢ place → part_at (14 * i) new ≡ part_at (14 * i) old
  pub rest : drop 8190 new ≡ drop 8190 old
