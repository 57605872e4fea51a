-- What a change of leaves of records leaves.
use Rattle.std.specs.Prelude.{◌≡◌, ◌⊎◌, ◌+◌, ◌*◌, ◌≤◌, ℕ, Bool, true}
use Rattle.fo_ports.specs.State.{State, KeepsSlot, KeepsNumbers}

-- no slot
abbrev pub no_slot : ℕ → ℕ → Type 0
no_slot b n = ⊥

-- the first entry of pair p of a leaf of entries, and of a directory the second
abbrev pub IsPairSlot : (entries p : ℕ) → (is_dir : Bool) → ℕ → ℕ → Type 0
IsPairSlot entries p is_dir b n = (b ≡ entries) × ((n ≡ 2 * p) ⊎ ((is_dir ≡ true) × (n ≡ 2 * p + 1)))

-- Some leaves got other bytes, and slots were cleared, or wait for it; all may have been settled in between. No block is given out: labels and
-- marks stay, and so does what is pinned, but for slots that waited and were cleared. No other slot begins to wait.
pub record Rewrites (leaves : ℕ → Type 0) (clears : ℕ → ℕ → Type 0) (s u : State) : Type 0 where
  pub labels : (b : ℕ) → u.label b ≡ s.label b
  pub marks : (b : ℕ) → (s.pinned b → u.pinned b) × (s.sealed b → u.sealed b)
  pub bytes : (b : ℕ) → s.pinned b → (leaves b → ⊥) → (u.now b).bytes ≡ (s.now b).bytes
  pub slots : (b n : ℕ) → s.pinned b → (clears b n → ⊥) → KeepsSlot s u b n
  pub clearing : (b n : ℕ) → u.clearing b n → s.clearing b n ⊎ clears b n
  pub left : (u.spare ≡ s.spare) × (u.pins_left ≡ s.pins_left) × (s.usable ≤ u.usable)
  pub numbers : KeepsNumbers s u

-- All was just settled: nothing is to be written but what is newborn, and no slot waits to be cleared.
pub record IsClean (s : State) : Type 0 where
  pub clean : (b : ℕ) → s.dirty b → s.newborn b
  pub none : (b j : ℕ) → s.clearing b j → ⊥
