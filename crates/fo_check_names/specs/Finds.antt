-- Which record of a list a slot pair is.
use Rattle.std.specs.Prelude.{◌≡◌, ◌⊎◌, ◌≢◌, ◌↔◌, ℕ, ◌/◌, ◌<◌, Bool, true, false, List, length, slice_index_or, slice_set}
use Rattle.std.specs.List.{All}
use Rattle.std.specs.List.Sorted.{IsNonDecreasingBy}
use Rattle.fo_image.specs.declared.types.Entry.{Entry}
use Rattle.fo_crash.specs.declared.slot.Slot.TheVariants.{Entry as Head}
use Rattle.fo_rules.specs.of_good.Trees.{IsFirst, IsSecond}
use Rattle.fo_check_names.specs.declared.names.Named.{Named}
use Rattle.fo_check_names.specs.Names.{slot_of}

-- A record of this slot pair is marked with whether the two entries are its own. In a list that ascends by slots there is none only where
-- no record has the pair.
pub data Finds (slot : ℕ) (first second : Entry) (found : Bool) (old new : List Named) : Type 0 where
  none : found ≡ false → new ≡ old → (IsNonDecreasingBy slot_of old → All (λ n. slot_of n ≢ slot) old) → Finds slot first second found old new
  some : (at : ℕ) (n : Named) → at < length old → ((d : Named) → slice_index_or old at d ≡ n) → slot_of n ≡ slot → (found ≡ true) ↔ (IsFirst (Head first) n.listed × IsSecond (Head second) n.listed) → new ≡ slice_set old at (record n { found = found })
      → Finds slot first second found old new

-- the leaf of entries that has a record's pair, and its row of so many leaves
abbrev pub leaf_for : Named → ℕ
leaf_for n = n.listed.slot / 102

abbrev pub row_for : ℕ → Named → ℕ
row_for count n = leaf_for n / count

-- Records whose pairs are in a row of so many leaves are marked as missed, in a list that ascends by slots all of them.
pub record Misses (row count : ℕ) (old new : List Named) : Type 0 where
  pub long : length new ≡ length old
  pub same : (i : ℕ) (d : Named) → i < length new → ((slice_index_or new i d).listed ≡ (slice_index_or old i d).listed) × ((slice_index_or new i d).leaf ≡ (slice_index_or old i d).leaf) × ((slice_index_or new i d).found ≡ (slice_index_or old i d).found)
  pub kept : (i : ℕ) (d : Named) → i < length new → (slice_index_or old i d).missed ≡ true → (slice_index_or new i d).missed ≡ true
  pub only : (i : ℕ) (d : Named) → i < length new → (slice_index_or new i d).missed ≡ true → ((slice_index_or old i d).missed ≡ true) ⊎ (row_for count (slice_index_or new i d) ≡ row)
  pub all : IsNonDecreasingBy slot_of old → (i : ℕ) (d : Named) → i < length new → row_for count (slice_index_or new i d) ≡ row → (slice_index_or new i d).missed ≡ true
