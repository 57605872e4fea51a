-- Two devices that are opened, and images of which nothing but a fault or want of memory keeps them from it.
use Rattle.std.specs.Prelude.{◌≡◌, [], List}
use Rattle.fo_disk.specs.Disk.{Block, DiskState}
use Rattle.fo_image.specs.declared.types.Super.{Super}
use Rattle.fo_image.specs.declared.record.RootBlock.{RootBlock}
use Rattle.fo_sound.specs.Device.{Shows}
use Rattle.fo_sound.specs.Sizes.{HasSizes, IsArena}
use Rattle.fo_sound.specs.Sound.{HasActiveRoot, HasTable, IsFormatted}
use Rattle.fo_opening.specs.Opens as cache
use Rattle.venti_store.specs.Opening as arena
use Rattle.fo_devices.specs.Seen.{Seen}

-- Sizes in range, an arena in which nothing is used, a header and a super block, an active root, and a table of labels.
pub record MayOpen (image vault : List Block) (s : Super) (root : RootBlock) : Type 0 where
  pub sizes : HasSizes image vault
  pub vault_is : IsArena vault 0
  pub formatted : IsFormatted image s
  pub root_is : HasActiveRoot image s root
  pub table : HasTable image

-- The cache has what was read of the main device, and holds nothing yet; the arena has what a quiet one told; and neither device changed.
pub record Begins (main stored now : DiskState) (d : Seen) : Type 0 where
  pub opens : cache.Opens d.size main.holds (record d.cache { disk = []; faults = 0 })
  pub main_is : now ≡ main
  pub vault_opens : (vault : List Block) → Shows stored.holds vault → arena.Opens vault d.shelf d.stored
  pub stored_is : d.stored ≡ stored
