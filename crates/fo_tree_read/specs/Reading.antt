-- Leaves that are read one after another.
use Rattle.std.specs.Prelude.{◌≡◌, ◌⊎◌, ◌+◌, ◌-◌, ◌*◌, ◌/◌, ◌^◌, ◌<◌, ◌≤◌, ℕ, Some}
use Rattle.fo_looks.specs.of_ports.State.{State}
use Rattle.fo_tree_read.specs.declared.tree.Tree.{Tree}
use Rattle.fo_tree_read.specs.Tree.{kind_at, block_at, address, Got, Way, above}

-- The blocks on the way to leaf i were got, and the leaf itself.
pub record LeafWay (s : State) (t : Tree) (i : ℕ) : Type 0 where
  pub way : Way s t t.depth i
  pub leaf : Got s (kind_at t.dir 0) (block_at s t t.depth i)

-- how many blocks stand on the ways to leaf i and those before it, but for the first of each level
abbrev pub passed : ℕ → ℕ → ℕ
passed depth i = i + above depth i

-- Leaf i is leaf j, to which the way was got, or the next.
pub record IsNext (s : State) (t : Tree) (j i : ℕ) : Type 0 where
  pub from : j ≤ i
  pub to : i ≤ j + 1
  pub way : LeafWay s t j

-- Pins are left for leaf i and the way to it.
abbrev pub HasLeafPins : State → Tree → ℕ → Type 0
HasLeafPins s t i = (t.depth + 1 ≤ s.pins_left) ⊎ ((j : ℕ) × IsNext s t j i × (passed t.depth i ≤ s.pins_left + passed t.depth j))

abbrev pub IsLeafFound : State → Tree → ℕ → Type 0
IsLeafFound s t i = s.tells ⊎ HasLeafPins s t i

-- Leaf i stands on the device.
abbrev pub IsLocal : State → Tree → ℕ → Type 0
IsLocal s t i = (b : ℕ) × (address s t i ≡ Some b)

-- how many pins it takes at most to read so many bytes of a source of this depth
abbrev pub most : ℕ → ℕ → ℕ
most depth n = n / 8192 + n / 2 ^ 21 + 3 * (depth + 1)

-- The ways to these bytes were got, as far as the source has them, and their leaves.
pub record Prepared (s : State) (t : Tree) (offset n : ℕ) : Type 0 where
  pub each : (k : ℕ) → offset ≤ k → k < offset + n → k < t.size → LeafWay s t (k / 8192)

-- A walk over bytes has come to this place: the pins that it took are those of the ways to the leaves that it passed, or there were
-- fewer.
pub record HasPassed (s : State) (t : Tree) (before offset done : ℕ) : Type 0 where
  pub is : ((done ≡ 0) × (before ≤ s.pins_left)) ⊎ ((0 < done) × ((before + passed t.depth (offset / 8192) ≤ t.depth + 1 + passed t.depth ((offset + done - 1) / 8192)) ⊎ (LeafWay s t ((offset + done - 1) / 8192) × (before + passed t.depth (offset / 8192) ≤ s.pins_left + (t.depth + 1) + passed t.depth ((offset + done - 1) / 8192)))))
