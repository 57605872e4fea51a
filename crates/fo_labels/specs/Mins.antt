-- A binary tree of minima in one list: node 1 is the root, the children of node k are nodes 2k and 2k + 1, and nodes
-- from `leaves` on are leaves.
use Rattle.std.specs.Prelude.{◌≡◌, ◌≢◌, ℕ, ◌+◌, ◌*◌, ◌^◌, ◌<◌, ◌≤◌, List, min, slice_index}

abbrev pub IsMin : List ℕ → ℕ → Type 0
IsMin tree k = slice_index tree k ≡ min (slice_index tree (2 * k)) (slice_index tree (2 * k + 1))

-- each inner node has the least number of its two children
pub record HasMins (leaves : ℕ) (tree : List ℕ) : Type 0 where
  pub at : (k : ℕ) → 1 ≤ k → k < leaves → IsMin tree k

-- each inner node but one
pub record HasMinsBut (leaves but : ℕ) (tree : List ℕ) : Type 0 where
  pub at : (k : ℕ) → 1 ≤ k → k < leaves → k ≢ but → IsMin tree k

-- the leftmost leaf within the bound, of as many leaves as so many levels have
pub record FirstLeaf (levels : ℕ) (tree : List ℕ) (bound leaf : ℕ) : Type 0 where
  pub from : 2 ^ levels ≤ leaf
  pub to : leaf < 2 * 2 ^ levels
  pub within : slice_index tree leaf ≤ bound
  pub first : (j : ℕ) → 2 ^ levels ≤ j → j < leaf → bound < slice_index tree j
