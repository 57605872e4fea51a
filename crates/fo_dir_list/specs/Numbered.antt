-- The record of a file number.
use Rattle.std.specs.Prelude.{◌≡◌, ◌<◌, ℕ, Bool, false, nat_eq, List, find, Option, Some, None, MatchOption}
use Rattle.std.specs.List.{list_any}
use Rattle.fo_image.specs.declared.record.Record.{Record}
use Rattle.fo_ports.specs.of_crash.Images.{Image}
use Rattle.fo_ports.specs.Sources.{Leaves}
use Rattle.fo_dir_read.specs.Names.{HasRecords, leaf_count}
use Rattle.fo_dir_list.specs.Next.{StandsAt}

abbrev pub has_number : ℕ → Record → Bool
has_number number r = nat_eq r.number number

-- The first record of the number stands at this place of a leaf, or none of its records has the number.
abbrev pub FirstStands : List ℕ → ℕ → List Record → Option (ℕ × ℕ) → Type 0
FirstStands leaf number rs found = MatchOption found (find (has_number number) rs ≡ None) (λ place. (r : Record) × StandsAt leaf place r × (find (has_number number) rs ≡ Some r))

-- No record of a leaf below this one has the number.
pub record LacksNumberBelow (now : Image) (leaves : Leaves) (number count : ℕ) : Type 0 where
  pub each : (i : ℕ) (rs : List Record) → i < count → HasRecords now leaves i rs → list_any (has_number number) rs ≡ false

-- The first record of the number stands in this leaf.
pub record IsNumbered (now : Image) (leaves : Leaves) (number size leaf : ℕ) (record_is : Record) : Type 0 where
  pub within : leaf < leaf_count size
  pub before : LacksNumberBelow now leaves number leaf
  pub records : List Record
  pub has : HasRecords now leaves leaf records
  pub first : find (has_number number) records ≡ Some record_is

-- The leaf has records, and the first of the number among them, if one has it, is this one.
pub record FindsNumber (now : Image) (leaves : Leaves) (number i : ℕ) (found : Option Record) : Type 0 where
  pub each : (rs : List Record) → HasRecords now leaves i rs → found ≡ find (has_number number) rs
  pub records : List Record
  pub has : HasRecords now leaves i records
