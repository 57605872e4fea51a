-- Where things stand in the image of the main device: a list of blocks of 8192 bytes.
use Rattle.std.specs.Prelude.{ℕ, ◌<◌, ◌≤◌, ◌==◌, Bool, List, [], take, drop, slice_index_or}
use Rattle.std.specs.List.{list_all}
use Rattle.fo_disk.specs.Disk.{Block}
use Rattle.fo_image.specs.declared.types.Label.{Label}
use Rattle.fo_image.specs.Format.{SpellsLabel}
use Rattle.fo_image.specs.Place.{first_data, label_block, label_byte}

-- the block at this address
abbrev pub block_of : List Block → ℕ → Block
block_of image at = slice_index_or image at []

-- all bytes are zero
abbrev pub is_zero : List ℕ → Bool
is_zero bytes = list_all (λ b. b == 0) bytes

-- the blocks after the label table
pub record IsDataBlock (blocks address : ℕ) : Type 0 where
  pub from : first_data blocks ≤ address
  pub to : address < blocks

-- the bytes of the label of an address
abbrev pub label_bytes : List Block → ℕ → List ℕ
label_bytes image address = take 14 (drop (label_byte address) (block_of image (label_block address)))

-- the label of an address
pub record HasLabel (image : List Block) (address : ℕ) (label : Label) : Type 0 where
  pub spelled : SpellsLabel label (label_bytes image address)

-- the two bytes of a block of the label table that are in no label
abbrev pub rest_bytes : Block → List ℕ
rest_bytes block = drop 8190 block
