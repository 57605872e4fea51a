-- The pairs of entries of a directory, as memory has them.
use Rattle.std.specs.Prelude.{◌≡◌, ◌⊎◌, ◌+◌, ◌*◌, ◌/◌, ◌%◌, ◌^◌, ◌<◌, ◌≤◌, ℕ, Option, Some, None, MatchOption}
use Rattle.fo_image.specs.declared.types.Kind.TheVariants.{Dir}
use Rattle.fo_image.specs.declared.types.Entry.{Entry}
use Rattle.fo_image.specs.declared.types.Pointer.TheVariants.{Local}
use Rattle.fo_ports.specs.of_crash.declared.slot.Slot.TheVariants.{Entry as Head}
use Rattle.fo_ports.specs.of_crash.Images.{Image}
use Rattle.fo_ports.specs.of_crash.Names.{IsInUse}
use Rattle.fo_ports.specs.Blocks.{no_entry}
use Rattle.fo_ports.specs.State.{State}
use Rattle.fo_ports.specs.Sources.{Form, Leaves}
use Rattle.fo_dir_read.specs.Names.{leaf_count}

-- A source of entries, of this rank, that a directory may have: short enough for its pairs to be counted in 32 bits.
pub record OfEntries (form : Form) (rank : ℕ) : Type 0 where
  pub entries : form.kind ≡ Dir 0
  pub ranked : form.rank ≡ rank
  pub short : form.limit ≤ 2 ^ 38

-- An entry is taken: it is in use, or waits to be cleared.
abbrev pub IsTaken : State → ℕ → ℕ → Type 0
IsTaken s b j = ((g : ℕ) × IsInUse ((s.now b).slot j) g) ⊎ s.clearing b j

-- Of a pair of entries of this block one is taken.
abbrev pub PairTaken : State → ℕ → ℕ → Type 0
PairTaken s b p = IsTaken s b (2 * p) ⊎ IsTaken s b (2 * p + 1)

-- Each pair of this block below this one is taken.
pub record TakenBelow (s : State) (b p : ℕ) : Type 0 where
  pub each : (q : ℕ) → q < p → PairTaken s b q

-- The least pair of a block that is free, or that all 102 are taken.
abbrev pub FreeIn : State → ℕ → Option ℕ → Type 0
FreeIn s b None = TakenBelow s b 102
FreeIn s b (Some p) = (p < 102) × (PairTaken s b p → ⊥) × TakenBelow s b p

-- The least free pair of leaf i, or that it has none; where no leaf stands, its first pair is free.
pub record FreeAt (s : State) (leaves : Leaves) (i : ℕ) (found : Option ℕ) : Type 0 where
  pub is : MatchOption (leaves.at i) (found ≡ Some 0) (λ b. FreeIn s b found)

-- Pair k is free: it stands behind the last leaf, or no leaf stands there, or neither of its entries is taken.
pub record IsFree (s : State) (leaves : Leaves) (size k : ℕ) : Type 0 where
  pub is : (leaf_count size ≡ k / 102) ⊎ MatchOption (leaves.at (k / 102)) (Unit {0}) (λ b. PairTaken s b (k % 102) → ⊥)

-- Each pair below this one stands in a leaf, and is taken.
pub record AreTaken (s : State) (leaves : Leaves) (k : ℕ) : Type 0 where
  pub each : (j : ℕ) → j < k → (b : ℕ) × (leaves.at (j / 102) ≡ Some b) × PairTaken s b (j % 102)

-- Pair k has these entries in memory: those of its leaf, or two that name nothing where no leaf stands.
pub record IsPair (now : Image) (leaves : Leaves) (k : ℕ) (first second : Entry) : Type 0 where
  pub is : MatchOption (leaves.at (k / 102)) ((first ≡ no_entry) × (second ≡ no_entry)) (λ b. ((now b).slot (2 * (k % 102)) ≡ Head first) × ((now b).slot (2 * (k % 102) + 1) ≡ Head second))

-- An entry has at most four levels, and leads to a data block, if to a block of the device.
pub record LeadsWithin (s : State) (e : Entry) : Type 0 where
  pub few : e.depth ≤ 4
  pub block : (b : ℕ) → e.top ≡ Local b → s.is_block b
