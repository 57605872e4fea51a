-- Records one after the other.
use Rattle.std.specs.Prelude.{◌≡◌, ℕ, List, ◌++◌, length}
use Rattle.std.specs.List.{AllByRecursion}
use Rattle.fo_image.specs.declared.record.Record.{Record}
use Rattle.fo_meta.specs.Leaf.{HasSpelling, record_bytes, records_bytes}

-- A record stands at the front of these bytes, and these come after it.
pub record IsFront (bytes : List ℕ) (r : Record) (more : List ℕ) : Type 0 where
  pub spelled : HasSpelling r
  pub is : bytes ≡ record_bytes r ++ more

-- These bytes are so many records.
pub record AreRecords (count : ℕ) (bytes : List ℕ) (rs : List Record) : Type 0 where
  pub each : AllByRecursion HasSpelling rs
  pub count_is : length rs ≡ count
  pub is : bytes ≡ records_bytes rs
