-- The device that was just formatted.
use Rattle.std.specs.Prelude.{◌≡◌, ◌≤◌, ℕ, Bool, List, length, take, drop}
use Rattle.fo_disk.specs.Disk.{Block, settled}
use Rattle.fo_image.specs.declared.types.Label.{Label}
use Rattle.fo_image.specs.declared.types.Super.{Super}
use Rattle.fo_image.specs.declared.record.RootBlock.{RootBlock}
use Rattle.fo_image.specs.declared.types.Pointer.TheVariants.{Nil, Local}
use Rattle.fo_image.specs.Format.{SpellsLabel, SpellsSuper}
use Rattle.fo_image.specs.Record.{SpellsRoot}
use Rattle.fo_image.specs.Place.{first_data, label_block, label_byte}
use Rattle.fo_crash.specs.Images.{target, to_block}
use Rattle.fo_sound.specs.Image.{IsDataBlock}
use Rattle.fo_sound.specs.Sizes.{IsMainSize}
use Rattle.fo_sound.specs.Sound.{HasLabels}
use Rattle.fo_sound.specs.Fresh.{IsFresh}
use Rattle.fo_cells_turns.specs.Opening.{none_made, no_origins}
use Rattle.fo_cells_whole.specs.Whole.{HoldsWhole}
use Rattle.fo_cells_fresh.specs.Fresh.{Reading, format_of, opened}

-- It reads what is spelled, on a device of so many blocks: super blocks, the root block, and labels of data blocks, which are where the format
-- has them. What is no data block has no label on the device.
pub record Reads (r : Reading) (blocks : ℕ) : Type 0 where
  pub super_leads : (s : Super) (bytes : Block) → SpellsSuper s bytes → (r.read 1 bytes).slot 0 ≡ to_block s.active
  pub super_only : (s : Super) (bytes : Block) → SpellsSuper s bytes → (i b : ℕ) → target ((r.read 1 bytes).slot i) ≡ Local b → i ≡ 0
  pub super_high : (s : Super) (bytes : Block) → SpellsSuper s bytes → r.high_of (r.read 1 bytes) ≡ s.high
  pub root_empty : (root : RootBlock) (bytes : Block) → SpellsRoot root bytes → root.entries.top ≡ Nil → root.meta.top ≡ Nil → (i b : ℕ) → target ((r.read (first_data blocks) bytes).slot i) ≡ Local b → ⊥
  pub label : (b : ℕ) (l : Label) (bytes : Block) → IsDataBlock blocks b → SpellsLabel l (take 14 (drop (label_byte b) bytes)) → r.label_in b bytes ≡ l
  pub block : (b : ℕ) → IsDataBlock blocks b → r.label_block b ≡ label_block b
  pub outside : (b : ℕ) → (IsDataBlock blocks b → ⊥) → blocks ≤ r.label_block b

-- THE FRESH DEVICE: a cache that opens over it, with the labels that stand there, keeps the whole.
abbrev pub FormattedIsWhole : Type 0
FormattedIsWhole = (r : Reading) (time : ℕ) (image : List Block) (labels : List Label) (unsure : List Bool) → Reads r (length image) → IsMainSize (length image) → IsFresh time image → HasLabels image labels → HoldsWhole (opened r image (record { first = first_data (length image); labels = labels }) 1) (format_of r) none_made no_origins unsure (settled image)
