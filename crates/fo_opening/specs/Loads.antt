-- The label table, one label or one block more.
use Rattle.std.specs.Prelude.{◌≡◌, ◌≢◌, ◌⊎◌, ◌+◌, ◌*◌, ◌<◌, ◌≤◌, ℕ, List, length}
use Rattle.fo_image.specs.declared.types.Label.{Label}
use Rattle.fo_image.specs.Format.{SpellsLabel}
use Rattle.fo_image.specs.Usable.{free_label}
use Rattle.fo_labels.specs.Region.{IsDataBlock, Region}
use Rattle.fo_labels.specs.Spelled.{AreLabels, SpellsLabels, label_at, part_at}

-- An address may have this label: what is no data block has that of a free one.
pub record IsLabelOf (r : Region) (address : ℕ) (l : Label) : Type 0 where
  pub other : (IsDataBlock r address → ⊥) → l ≡ free_label

-- There are as many labels, each of which can be spelled.
pub record StaysTable (old new : Region) : Type 0 where
  pub first : new.first ≡ old.first
  pub count : length new.labels ≡ length old.labels
  pub labels : AreLabels new

-- The label of one address was read, and all others stay.
pub record Loads (address : ℕ) (bytes : List ℕ) (old new : Region) : Type 0 where
  pub stays : StaysTable old new
  pub here : SpellsLabel (label_at new address) bytes
  pub others : (x : ℕ) → x ≢ address → label_at new x ≡ label_at old x

-- The labels of so many addresses from the first of a block on were read.
pub record LoadsPart (n upto : ℕ) (block : List ℕ) (old new : Region) : Type 0 where
  pub stays : StaysTable old new
  pub spelled : (i : ℕ) → i < upto → SpellsLabel (label_at new (585 * n + i)) (part_at (14 * i) block)
  pub others : (x : ℕ) → (x < 585 * n) ⊎ (585 * n + upto ≤ x) → label_at new x ≡ label_at old x

-- The labels of a block of the table were read, and no others.
pub record LoadsBlock (n : ℕ) (block : List ℕ) (old new : Region) : Type 0 where
  pub stays : StaysTable old new
  pub spells : SpellsLabels new (2 + n) block
  pub others : (x : ℕ) → (x < 585 * n) ⊎ (585 * n + 585 ≤ x) → label_at new x ≡ label_at old x

-- No labels of so many blocks are spelled so in this block of the table.
pub record IsNoBlock (n : ℕ) (block : List ℕ) (old : Region) : Type 0 where
  pub none : (r : Region) → r.first ≡ old.first → length r.labels ≡ length old.labels → SpellsLabels r (2 + n) block → ⊥
