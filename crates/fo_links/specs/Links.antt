-- What a call of a source or a sink does to what they tell.
use Rattle.std.specs.Prelude.{◌≡◌, ℕ, ◌+◌, ◌<◌, ◌≤◌, List, [], ◌++◌, length, take, drop, IfSome, Result, Ok, Err, MatchResult}
use Rattle.std.specs.declared.option.Option.{Option}
use Rattle.std.specs.Option.{option_map}
use Rattle.fo_base.specs.Cause.{Counted}
use Rattle.fo_links.specs.declared.traits.Failed.{Failed}

-- What is told has these bytes at its front, and what is told later has the others.
abbrev pub LosesFront : List ℕ → Option (List ℕ) → Option (List ℕ) → Type 0
LosesFront bytes old new = old ≡ option_map (λ rest. bytes ++ rest) new

-- What is told has these bytes at its end from now on.
abbrev pub GainsEnd : List ℕ → Option (List ℕ) → Option (List ℕ) → Type 0
GainsEnd bytes old new = new ≡ option_map (λ front. front ++ bytes) old

-- Where the source tells what is left, nothing is.
abbrev pub IsAtEnd : Option (List ℕ) → Type 0
IsAtEnd left = IfSome left (λ rest. rest ≡ [])

-- n bytes came to the front of the piece, and what lies behind them stayed; none came only at the
-- end, or where the piece is empty.
pub record TakenSome (left left' given given' : Option (List ℕ)) (room room' : ℕ) (piece piece' : List ℕ) (n : ℕ) : Type 0 where
  pub within : n ≤ length piece
  pub lost : LosesFront (take n piece') left left'
  pub gained : GainsEnd (take n piece') given given'
  pub fewer : room' + n ≡ room
  pub behind : drop n piece' ≡ drop n piece
  pub ended : n ≡ 0 → 0 < length piece → IsAtEnd left

-- A call that failed took none, and the piece is as it was.
pub record TakenNone (left left' given given' : Option (List ℕ)) (room room' : ℕ) (piece piece' : List ℕ) : Type 0 where
  pub left_stays : left' ≡ left
  pub given_stays : given' ≡ given
  pub room_stays : room' ≡ room
  pub piece_stays : piece' ≡ piece

abbrev pub Taken : Option (List ℕ) → Option (List ℕ) → Option (List ℕ) → Option (List ℕ) → ℕ → ℕ → List ℕ → List ℕ → Result ℕ Failed → Type 0
Taken left left' given given' room room' piece piece' (Ok n) = TakenSome left left' given given' room room' piece piece' n
Taken left left' given given' room room' piece piece' (Err e) = TakenNone left left' given given' room room' piece piece'

-- The whole piece is put, or where the call fails a front of it.
abbrev pub Put : Option (List ℕ) → Option (List ℕ) → List ℕ → Result (Unit {0}) Failed → Type 0
Put held held' bytes (Ok u) = GainsEnd bytes held held'
Put held held' bytes (Err e) = (n : ℕ) × GainsEnd (take n bytes) held held'

-- The count of faults goes up where the call fails, and stays where it doesn't.
abbrev pub CountsFaults : {T : Type 0} → ℕ → ℕ → Result T Failed → Type 0
CountsFaults before now result = MatchResult result (λ _. now ≡ before) (λ _. Counted before now)
