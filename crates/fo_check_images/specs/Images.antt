-- The image of a device, whatever its blocks hold.
use Rattle.std.specs.Prelude.{◌≡◌, ℕ, ◌<◌, List, length, slice_index_or}
use Rattle.fo_disk.specs.Disk.{Block}
use Rattle.fo_image.specs.declared.types.Super.{Super}
use Rattle.fo_image.specs.declared.record.RootBlock.{RootBlock}
use Rattle.fo_crash.specs.Images.{Image, nothing}
use Rattle.fo_sound.specs.Image.{block_of, IsDataBlock}
use Rattle.fo_check_tree.specs.Answer.{HoldsAny}

-- Each data block has 8192 bytes.
pub record AreWhole (device : List Block) : Type 0 where
  pub long : (at : ℕ) → IsDataBlock (length device) at → length (block_of device at) ≡ 8192
  pub bytes : (at : ℕ) → IsDataBlock (length device) at → (i : ℕ) → slice_index_or (block_of device at) i 0 < 256

-- The device has an image, over an empty arena, with this active root.
pub record HasImage (device : List Block) (s : Super) (root : RootBlock) : Type 0 where
  pub image : Image
  pub holds : HoldsAny (λ kind score. nothing) device image s (record { at = s.active; root = root })
