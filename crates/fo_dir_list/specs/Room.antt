-- How many records a directory has, and which leaf has room for one more.
use Rattle.std.specs.Prelude.{◌≡◌, ◌⊎◌, ◌+◌, ◌<◌, ◌≤◌, ℕ, List, length}
use Rattle.fo_image.specs.declared.record.Record.{Record}
use Rattle.fo_meta.specs.Leaf.{records_bytes}
use Rattle.fo_ports.specs.of_crash.Images.{Image}
use Rattle.fo_ports.specs.Sources.{Leaves}
use Rattle.fo_dir_read.specs.Names.{HasRecords, AreRecords}

-- Leaf i has this many records, in this many bytes.
pub record Takes (now : Image) (leaves : Leaves) (i count used : ℕ) : Type 0 where
  pub each : (rs : List Record) → HasRecords now leaves i rs → (length rs ≡ count) × (length (records_bytes rs) ≡ used)
  pub records : List Record
  pub has : HasRecords now leaves i records

-- The leaves below this one have this many records.
pub record Counts (now : Image) (leaves : Leaves) (count names : ℕ) : Type 0 where
  pub each : (rs : List Record) → AreRecords now leaves count rs → length rs ≡ names
  pub records : List Record
  pub are : AreRecords now leaves count records

-- The records of this leaf and so many bytes more would not fit.
pub record IsTight (now : Image) (leaves : Leaves) (len i : ℕ) : Type 0 where
  pub each : (rs : List Record) → HasRecords now leaves i rs → 8188 < length (records_bytes rs) + len

-- The first leaf with room for so many bytes more, or the one behind the last.
pub record IsRoom (now : Image) (leaves : Leaves) (count len i : ℕ) : Type 0 where
  pub tight : (j : ℕ) → j < i → IsTight now leaves len j
  pub within : i ≤ count
  pub room : (i ≡ count) ⊎ ((rs : List Record) → HasRecords now leaves i rs → length (records_bytes rs) + len ≤ 8188)
