-- What the calls of a gate do to what a seat knows.
use Rattle.std.specs.Prelude.{◌≡◌, ◌⊎◌, ℕ, ◌≤◌, List, [], ◌∷◌, ◌++◌, length}
use Rattle.fo_gate.specs.Weights.{total, below}
use Rattle.fo_gate.specs.Lists.{StartsWith, first_numbers, least, elements_at}
use Rattle.fo_gate.specs.History.{IsLegal, entry, last_low, last_high, most_turns}
use Rattle.fo_gate.specs.Steps.{IsPlaced}
use Rattle.fo_gate.specs.declared.view.Entry.{Entry}
use Rattle.fo_gate.specs.declared.view.View.{View}

module _ {S E O : Type 0} where
  -- the entries of a seat's own calls
  abbrev pub own_entries : View S E O → List (Entry E O)
  own_entries v = elements_at v.seen v.calls

  -- the first seat of a gate: it holds all numbers, and there is no history yet
  pub record IsFirst (v : View S E O) : Type 0 where
    pub numbers : v.numbers ≡ first_numbers v.seats
    pub seen : v.seen ≡ []
    pub calls : v.calls ≡ []

  -- each number of the gate once, and no other: each weight of them is that of the numbers below the number of seats
  abbrev pub HoldsAll : View S E O → Type 0
  HoldsAll v = (f : ℕ → ℕ) → total f v.numbers ≡ below f v.seats

  -- The seat has made no call. It may have seen more of the history.
  pub record MakesNoCall (v w : View S E O) : Type 0 where
    pub numbers : w.numbers ≡ v.numbers
    pub calls : w.calls ≡ v.calls
    pub seen : StartsWith w.seen v.seen
    pub own : own_entries w ≡ own_entries v

  -- the history has its most turns, and the seat has seen all of it
  pub record IsFull (v w : View S E O) : Type 0 where
    pub frame : MakesNoCall v w
    pub whole : length w.seen ≡ most_turns

  -- Of two seen histories one began the other. The seat has the longer, with the numbers and the calls of both.
  pub record IsJoined (v u w : View S E O) : Type 0 where
    pub numbers : w.numbers ≡ v.numbers ++ u.numbers
    pub calls : w.calls ≡ v.calls ++ u.calls
    pub once : IsPlaced w
    pub seen : (StartsWith v.seen u.seen × (w.seen ≡ v.seen)) ⊎ (StartsWith u.seen v.seen × (w.seen ≡ u.seen))
    pub own : own_entries w ≡ own_entries v ++ own_entries u

module _ {S E O : Type 0} (turns : S → E → O → S → Type 0) (low high : S → ℕ) where
  -- What a seat knows at a gate that was given the state `s` and `n` numbers: it has seen a beginning of a history that is legal from
  -- that state, and its calls stand at places of it, each once.
  pub record IsViewOf (s : S) (n : ℕ) (v : View S E O) : Type 0 where
    pub opening : v.opening ≡ s ∷ []
    pub seats : v.seats ≡ n
    pub legal : (z : S) × IsLegal turns low high s v.seen z
    pub placed : IsPlaced v

  -- The turn of this event had this outcome, and what the seat has seen ends with its entry: the number of the caller, event, outcome,
  -- and the epochs of the state after it. Its length is `n`. The turn is one more of the seat's calls.
  pub record IsCall (s : S) (v : View S E O) (event : E) (outcome : O) (n : ℕ) (w : View S E O) : Type 0 where
    pub between : List (Entry E O)
    pub after : S
    pub numbers : w.numbers ≡ v.numbers
    pub seen : w.seen ≡ (v.seen ++ between) ++ entry (least v.numbers) event outcome (low after) (high after) ∷ []
    pub legal : IsLegal turns low high s w.seen after
    pub front : length w.seen ≡ n
    pub room : n ≤ most_turns
    pub calls : w.calls ≡ v.calls ++ length (v.seen ++ between) ∷ []
    pub own : own_entries w ≡ own_entries v ++ entry (least v.numbers) event outcome (low after) (high after) ∷ []

  -- The state is the one after all that the seat has seen, and each place of that is one of its calls, once.
  pub record IsEnd (s : S) (v : View S E O) (z : S) : Type 0 where
    pub legal : IsLegal turns low high s v.seen z
    pub own : (f : ℕ → ℕ) → total f v.calls ≡ below f (length v.seen)

module _ {S E O : Type 0} (low high : S → ℕ) where
  -- The epochs after all that the seat has then seen; those of the opening state where that is empty.
  pub record IsRead (s : S) (v : View S E O) (a b : ℕ) (w : View S E O) : Type 0 where
    pub frame : MakesNoCall v w
    pub low_epoch : a ≡ last_low (low s) w.seen
    pub high_epoch : b ≡ last_high (high s) w.seen
