-- The image of a device that was just formatted.
use Rattle.std.specs.Prelude.{◌≡◌, ◌≢◌, ℕ, ◌*◌, ◌<◌, ◌≤◌, true, false, List, length, codes, None}
use Rattle.fo_disk.specs.Disk.{Block}
use Rattle.fo_image.specs.declared.types.Super.{Super}
use Rattle.fo_image.specs.declared.types.Entry.{Entry}
use Rattle.fo_image.specs.declared.types.Pointer.TheVariants.{Nil}
use Rattle.fo_image.specs.declared.record.Record.{Record}
use Rattle.fo_image.specs.declared.record.RootBlock.{RootBlock}
use Rattle.fo_image.specs.Record.{SpellsRoot}
use Rattle.fo_image.specs.Place.{label_blocks, first_data}
use Rattle.fo_sound.specs.Image.{block_of, is_zero, IsDataBlock, label_bytes, HasLabel, rest_bytes}
use Rattle.fo_image.specs.Usable.{free_label}
use Rattle.fo_sound.specs.Sound.{IsFormatted, root_label as live_root}

-- epochs begin with 1, and the active root is the first data block
abbrev pub fresh_super : ℕ → Super
fresh_super blocks = record { version = 1; low = 1; high = 1; active = first_data blocks; numbers = 1; pending = 0; last = None }

-- an entry in use with no bytes
abbrev pub fresh_entry : ℕ → Entry
fresh_entry tag = record { generation = 0; active = true; dir = false; depth = 0; tag = tag; size = 0; top = Nil }

-- the root directory: mode DMDIR and 0777, owned by adm
abbrev pub fresh_record : ℕ → Record
fresh_record time = record { name = codes "/"; number = 0; slot = 0; generation = 0; vers = 0; mode = 0x800001ff; atime = time; mtime = time; uid = codes "adm"; gid = codes "adm"; muid = codes "adm" }

abbrev pub fresh_root : ℕ → RootBlock
fresh_root time = record { epoch = 1; time = time; prev_epoch = 0; prev = 0; entries = record (fresh_entry 32) { dir = true }; meta = fresh_entry 33; own = fresh_record time }

-- Header, super block and root block. In the label table the root's block is live, all other data blocks are free, and all
-- else is zero. What the other data blocks hold is left open.
pub record IsFresh (time : ℕ) (image : List Block) : Type 0 where
  pub formatted : IsFormatted image (fresh_super (length image))
  pub root_label : HasLabel image (first_data (length image)) (live_root (fresh_super (length image)))
  pub free : (address : ℕ) → IsDataBlock (length image) address → address ≢ first_data (length image) → HasLabel image address free_label
  pub others : (address : ℕ) → address < 585 * label_blocks (length image) → ¬ IsDataBlock (length image) address → is_zero (label_bytes image address) ≡ true
  pub rests : (at : ℕ) → 2 ≤ at → at < first_data (length image) → is_zero (rest_bytes (block_of image at)) ≡ true
  pub root : SpellsRoot (fresh_root time) (block_of image (first_data (length image)))
