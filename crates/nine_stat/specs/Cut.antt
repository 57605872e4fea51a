-- What of a directory's records goes into one reply.
use Rattle.std.specs.Prelude.{ℕ, ◌≤◌, List, length, take}
use Rattle.std.specs.List.{flat_map}
use Rattle.nine_stat.specs.declared.stat.Stat.{Stat}
use Rattle.nine_stat.specs.Stat.{spelling}

-- the first n records, one after the other
unfoldable pub records : List Stat → ℕ → List ℕ
records list n = flat_map spelling (take n list)

-- n is the largest number of whole records that stand within count bytes
pub record IsLongest (list : List Stat) (count n : ℕ) : Type 0 where
  pub there : n ≤ length list
  pub within : length (records list n) ≤ count
  pub longest : (k : ℕ) → k ≤ length list → length (records list k) ≤ count → k ≤ n
