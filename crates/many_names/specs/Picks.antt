-- Of each block of a disk one of its versions is picked.
use Rattle.std.specs.Prelude.{◌≡◌, ◌<◌, ℕ, List, length, slice_index}
use Rattle.fo_disk.specs.Disk.{Content, versions_of}

pub record Picks (picks : List ℕ) (holds : Content) : Type 0 where
  pub count : length picks ≡ length holds
  pub each : (k : ℕ) → k < length picks → slice_index picks k < length (versions_of holds k)
