-- The label table of a device that was just formatted, block by block.
use Rattle.std.specs.Prelude.{◌≡◌, ◌≢◌, ◌⊎◌, ℕ, ◌<◌, ◌≤◌, true, List, length, take, drop}
use Rattle.fo_disk.specs.Disk.{Block}
use Rattle.fo_image.specs.Format.{SpellsLabel}
use Rattle.fo_image.specs.Place.{first_data, label_block, label_byte}
use Rattle.fo_sound.specs.Image.{block_of, is_zero, rest_bytes}
use Rattle.fo_sound.specs.Sound.{root_label}
use Rattle.fo_sound.specs.Fresh.{fresh_super}

-- the label of this address, in its block of the table
abbrev pub label_in : ℕ → Block → List ℕ
label_in address block = take 14 (drop (label_byte address) block)

-- This block of the table has the label of the root block, if that stands in it, and zeros.
pub record IsLabelBlock (blocks at : ℕ) (block : Block) : Type 0 where
  pub whole : length block ≡ 8192
  pub root : label_block (first_data blocks) ≡ at → SpellsLabel (root_label (fresh_super blocks)) (label_in (first_data blocks) block)
  pub others : (address : ℕ) → label_block address ≡ at → address ≢ first_data blocks → is_zero (label_in address block) ≡ true
  pub rest : is_zero (rest_bytes block) ≡ true

-- The blocks from 2 up to this one are those of the table. All other blocks are as before.
pub record HasLabelBlocks (blocks upto : ℕ) (before now : List Block) : Type 0 where
  pub count : length now ≡ length before
  pub labels : (at : ℕ) → 2 ≤ at → at < upto → at < length before → IsLabelBlock blocks at (block_of now at)
  pub others : (at : ℕ) → (at < 2) ⊎ (upto ≤ at) → block_of now at ≡ block_of before at
