-- What the records of a directory and the numbers of files are asked: that they differ, and fit.
use Rattle.std.specs.Prelude.{◌≡◌, ◌≢◌, ◌||◌, ℕ, ◌*◌, ◌/◌, ◌<◌, true, false, List, length, slice_index_or}
use Rattle.fo_image.specs.declared.record.Record.{Record}
use Rattle.fo_check_names.specs.declared.names.Named.{Named}
use Rattle.fo_check_names.specs.declared.names.Number.{Number}

abbrev pub name_of : Named → List ℕ
name_of n = n.listed.name

abbrev pub slot_of : Named → ℕ
slot_of n = n.listed.slot

abbrev pub leaf_of : Named → ℕ
leaf_of n = n.leaf

abbrev pub number_of : Number → ℕ
number_of n = n.number

abbrev pub holder_of : Number → ℕ
holder_of n = n.leaf

-- a record's number, with its leaf
abbrev pub number_in : Named → Number
number_in n = record { number = n.listed.number; leaf = n.leaf }

-- a record with its leaf, whose pair was not found yet
abbrev pub named_in : ℕ → Record → Named
named_in leaf r = record { listed = r; leaf = leaf; found = false; missed = false }

-- No two elements have one key.
pub record Differ {X K : Type 0} (key : X → K) (xs : List X) : Type 0 where
  pub each : (i j : ℕ) (d : X) → i < j → j < length xs → key (slice_index_or xs i d) ≢ key (slice_index_or xs j d)

-- An element of this leaf has the key of another.
pub record IsTwice {X K : Type 0} (key : X → K) (of : X → ℕ) (xs : List X) (leaf : ℕ) : Type 0 where
  pub first : ℕ
  pub second : ℕ
  pub apart : first ≢ second
  pub before : first < length xs
  pub within : second < length xs
  pub same : (d : X) → key (slice_index_or xs first d) ≡ key (slice_index_or xs second d)
  pub leaf_is : (d : X) → of (slice_index_or xs second d) ≡ leaf

-- The record's pair was found or missed, and its leaf of entries begins below this size.
pub record IsPaired (size : ℕ) (n : Named) : Type 0 where
  pub found : (n.found || n.missed) ≡ true
  pub within : 8192 * (n.listed.slot / 102) < size

pub record IsUnpaired (size leaf : ℕ) (n : Named) : Type 0 where
  pub leaf_is : n.leaf ≡ leaf
  pub unpaired : IsPaired size n → ⊥

-- A file has a number below the limit, and the root alone has 0.
pub record IsFileNumber (limit : ℕ) (n : Number) : Type 0 where
  pub least : 0 < n.number
  pub below : n.number < limit

pub record IsNoFile (limit leaf : ℕ) (n : Number) : Type 0 where
  pub leaf_is : n.leaf ≡ leaf
  pub outside : IsFileNumber limit n → ⊥
