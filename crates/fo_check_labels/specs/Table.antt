-- The label table: at which block it is broken, and what is known of it once a part of it was read.
use Rattle.std.specs.Prelude.{◌≡◌, ℕ, ◌+◌, ◌*◌, ◌<◌, ◌≤◌, true, false, List, length}
use Rattle.std.specs.List.{All, Any}
use Rattle.fo_disk.specs.Disk.{Block}
use Rattle.fo_image.specs.declared.types.Label.{Label}
use Rattle.fo_image.specs.declared.types.State.TheVariants.{Free}
use Rattle.fo_image.specs.Place.{label_blocks, first_data, label_block}
use Rattle.fo_sound.specs.Image.{block_of, is_zero, IsDataBlock, label_bytes, HasLabel, rest_bytes}
use Rattle.fo_check_labels.specs.declared.error.TreeError.{TreeError}
use Rattle.fo_check_labels.specs.declared.error.TreeError.TheVariants.{Label as BadLabel, Read, Memory}
use Rattle.fo_check_labels.specs.declared.labels.Known.{Known}
use Rattle.fo_check_labels.specs.Known.{IsKnown}

-- S4: a data block whose label is not of the format, or a block of the table with bytes that are in no label and not zero
pub data BreaksTable (image : List Block) (block : ℕ) : Type 0 where
  label : IsDataBlock (length image) block → ((l : Label) → ¬ HasLabel image block l) → BreaksTable image block
  other : (address : ℕ) → address < 585 * label_blocks (length image) → ¬ IsDataBlock (length image) address → block ≡ label_block address → ¬ (is_zero (label_bytes image address) ≡ true) → BreaksTable image block
  rest : 2 ≤ block → block < first_data (length image) → ¬ (is_zero (rest_bytes (block_of image block)) ≡ true) → BreaksTable image block

-- Why the table was not read to its end.
abbrev pub RefusesTable : List Block → TreeError → Type 0
RefusesTable image (BadLabel block) = BreaksTable image block
RefusesTable image Read = Unit {0}
RefusesTable image Memory = Unit {0}

-- A block that is not free and was not reached, with its label.
pub record IsRight (image : List Block) (k : Known) : Type 0 where
  pub place : IsDataBlock (length image) k.address
  pub has : HasLabel image k.address k.label
  pub used : k.label.state ≡ Free → ⊥
  pub fresh : k.reached ≡ false

-- An address has a label, and is in the list if it is not free.
pub record IsListed (image : List Block) (known : List Known) (address : ℕ) : Type 0 where
  pub label : Label
  pub has : HasLabel image address label
  pub listed : (label.state ≡ Free → ⊥) → Any (IsKnown address label) known

-- The table is as it has to be below this address, and in the last bytes of so many of its blocks; the list has its blocks that are not
-- free.
pub record IsScanned (image : List Block) (seen upto : ℕ) (known : List Known) : Type 0 where
  pub right : All (IsRight image) known
  pub labels : (address : ℕ) → address < upto → IsDataBlock (length image) address → IsListed image known address
  pub others : (address : ℕ) → address < upto → ¬ IsDataBlock (length image) address → is_zero (label_bytes image address) ≡ true
  pub rests : (at : ℕ) → 2 ≤ at → at < 2 + seen → is_zero (rest_bytes (block_of image at)) ≡ true
