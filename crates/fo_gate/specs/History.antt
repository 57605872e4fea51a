-- Histories: lists of turns that a state makes one after another.
use Rattle.std.specs.Prelude.{◌≡◌, ℕ, ◌+◌, ◌*◌, List, [], ◌∷◌}
use Rattle.fo_gate.specs.declared.view.Entry.{Entry}

-- the most turns that a history has, 2^62
abbrev pub most_turns : ℕ
most_turns = 4611686018427387904

-- the low and the high epoch in one word, the low one in the upper half
abbrev pub epochs_word : ℕ → ℕ → ℕ
epochs_word low high = low * 4294967296 + high

module _ {E O : Type 0} where
  abbrev pub entry : ℕ → E → O → ℕ → ℕ → Entry E O
  entry n e o low high = record { number = n; event = e; outcome = o; low = low; high = high }

  -- the low epoch after the last entry, or the one given where there is none
  abbrev pub last_low : ℕ → List (Entry E O) → ℕ
  last_low d [] = d
  last_low d (e ∷ es) = last_low e.low es

  -- the same of the high epoch
  abbrev pub last_high : ℕ → List (Entry E O) → ℕ
  last_high d [] = d
  last_high d (e ∷ es) = last_high e.high es

module _ {S E O : Type 0} (turns : S → E → O → S → Type 0) (low high : S → ℕ) where
  -- The turns of these entries, made from the first state in this order, may give their outcomes and epochs, and leave the second state.
  abbrev pub IsLegal : S → List (Entry E O) → S → Type 0
  IsLegal a [] z = a ≡ z
  IsLegal a (e ∷ es) z = (b : S) × turns a e.event e.outcome b × (e.low ≡ low b) × (e.high ≡ high b) × IsLegal b es z
