-- What is known of a device that tells what it holds.
use Rattle.std.specs.Prelude.{◌≡◌, ◌<◌, List, length}
use Rattle.fo_disk.specs.Disk.{Block, Content, settled}

-- a quiet device that tells what it holds, and its one image
pub record Shows (holds : Content) (image : List Block) : Type 0 where
  pub quiet : holds ≡ settled image
  pub some : 0 < length image
