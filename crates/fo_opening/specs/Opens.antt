-- What is read of a device where a cache is opened.
use Rattle.std.specs.Prelude.{◌≡◌, ◌+◌, ◌<◌, ◌≤◌, ℕ, false, List, length}
use Rattle.std.specs.List.{Contains}
use Rattle.fo_disk.specs.Disk.{versions_of}
use Rattle.fo_disk.specs.Disk.{Content as Holds}
use Rattle.fo_image.specs.declared.types.Super.{Super}
use Rattle.fo_image.specs.Format.{SpellsHeader, SpellsSuper}
use Rattle.fo_image.specs.Place.{first_data, label_blocks}
use Rattle.fo_image.specs.Usable.{is_usable}
use Rattle.fo_labels.specs.Region.{Region}
use Rattle.fo_labels.specs.Spelled.{AreLabels, SpellsLabels}
use Rattle.fo_mind.specs.Opened.{opened}
use Rattle.fo_mind.specs.Parts.{Parts, count_of, label_at}
use Rattle.fo_sound.specs.Sizes.{IsMainSize}

-- Bytes that were read of a block: they are one of the device's versions, as far as it tells.
pub record IsRead (holds : Holds) (at : ℕ) (bytes : List ℕ) : Type 0 where
  pub long : length bytes ≡ 8192
  pub version : at < length holds → Contains (versions_of holds at) bytes

-- Block 0 is the header of a device of so many blocks.
pub record HasHeader (holds : Holds) (count : ℕ) : Type 0 where
  pub bytes : List ℕ
  pub read : IsRead holds 0 bytes
  pub spells : SpellsHeader (record { blocks = count }) bytes

-- The epochs are in order, and the root is a data block.
pub record Stands (count : ℕ) (one : Super) : Type 0 where
  pub order : one.low ≤ one.high
  pub from : first_data count ≤ one.active
  pub to : one.active < count

-- Block 1 is this super block.
pub record HasSuper (holds : Holds) (count : ℕ) (one : Super) (bytes : List ℕ) : Type 0 where
  pub read : IsRead holds 1 bytes
  pub spells : SpellsSuper one bytes
  pub stands : Stands count one

-- Labels of a device of so many blocks, each of which can be spelled.
pub record IsTable (count : ℕ) (r : Region) : Type 0 where
  pub first : r.first ≡ first_data count
  pub count_is : count_of r ≡ count
  pub labels : AreLabels r

-- So many blocks of the label table have these labels.
pub record HasTable (holds : Holds) (blocks : ℕ) (r : Region) : Type 0 where
  pub each : (k : ℕ) → k < blocks → (bytes : List ℕ) × IsRead holds (2 + k) bytes × SpellsLabels r (2 + k) bytes

-- A cache was opened: it has the super block and the labels that were read, the root may not be given out, and nothing is held.
pub record Opens (size : ℕ) (holds : Holds) (p : Parts) : Type 0 where
  pub sizes : IsMainSize size
  pub header : HasHeader holds size
  pub one : HasSuper holds size p.one p.one_bytes
  pub labels : IsTable size p.region
  pub table : HasTable holds (label_blocks size) p.region
  pub root : is_usable p.one.low (label_at p.region p.one.active) ≡ false
  pub is : p ≡ opened p.region p.one p.one_bytes
