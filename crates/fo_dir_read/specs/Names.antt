-- The names of a directory, as memory has them.
use Rattle.std.specs.Prelude.{◌≡◌, ◌+◌, ◌/◌, ◌%◌, ◌^◌, ◌<◌, ◌≤◌, ℕ, zero, suc, List, [], ◌++◌, false, find, Option, Some, MatchOption}
use Rattle.std.specs.List.{list_any}
use Rattle.fo_image.specs.declared.record.Record.{Record}
use Rattle.fo_image.specs.declared.types.Kind.TheVariants.{Data}
use Rattle.fo_meta.specs.Leaf.{SpellsLeaf, is_named}
use Rattle.fo_ports.specs.of_crash.Images.{Image}
use Rattle.fo_ports.specs.Sources.{Form, Leaves}

-- A source of records, of this rank, that a directory may have: short enough for its leaves to be counted in 32 bits.
pub record OfRecords (form : Form) (rank : ℕ) : Type 0 where
  pub leaf_kind : form.kind ≡ Data 0
  pub ranked : form.rank ≡ rank
  pub records : rank % 32 ≡ 16
  pub short : form.limit ≤ 2 ^ 40

-- how many leaves a source of so many bytes has
abbrev pub leaf_count : ℕ → ℕ
leaf_count size = (size + 8191) / 8192

-- Leaf i has these records: those that its block spells in memory, and none where no block stands.
pub record HasRecords (now : Image) (leaves : Leaves) (i : ℕ) (rs : List Record) : Type 0 where
  pub is : MatchOption (leaves.at i) (rs ≡ []) (λ b. SpellsLeaf rs ((now b).bytes))

-- No record of a leaf below this one has the name.
pub record LacksBelow (now : Image) (leaves : Leaves) (name : List ℕ) (count : ℕ) : Type 0 where
  pub each : (i : ℕ) (rs : List Record) → i < count → HasRecords now leaves i rs → list_any (is_named name) rs ≡ false

-- The first record of the name stands in this leaf.
pub record IsFound (now : Image) (leaves : Leaves) (name : List ℕ) (size leaf : ℕ) (record_is : Record) : Type 0 where
  pub within : leaf < leaf_count size
  pub before : LacksBelow now leaves name leaf
  pub records : List Record
  pub has : HasRecords now leaves leaf records
  pub first : find (is_named name) records ≡ Some record_is

-- The leaf has records, and the first of the name among them, if one has it, is this one.
pub record Finds (now : Image) (leaves : Leaves) (name : List ℕ) (i : ℕ) (found : Option Record) : Type 0 where
  pub each : (rs : List Record) → HasRecords now leaves i rs → found ≡ find (is_named name) rs
  pub records : List Record
  pub has : HasRecords now leaves i records

-- the records of so many leaves, one leaf after the other
abbrev pub joined : (ℕ → List Record) → ℕ → List Record
joined rows zero = []
joined rows (suc n) = joined rows n ++ rows n

-- These are the records of the leaves below this one, in the order of the leaves.
pub record AreRecords (now : Image) (leaves : Leaves) (count : ℕ) (rs : List Record) : Type 0 where
  pub rows : ℕ → List Record
  pub each : (i : ℕ) → i < count → HasRecords now leaves i (rows i)
  pub all : rs ≡ joined rows count
