-- Versions that are picked of the first blocks of a disk.
use Rattle.std.specs.Prelude.{ℕ, ◌<◌, List, length, slice_index}
use Rattle.fo_disk.specs.Disk.{Content, versions_of}

-- each is one that its block has
pub record Picks (picks : List ℕ) (content : Content) : Type 0 where
  pub each : (k : ℕ) → k < length picks → slice_index picks k < length (versions_of content k)
