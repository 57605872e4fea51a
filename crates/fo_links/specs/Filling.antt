-- What a buffer takes from a source.
use Rattle.std.specs.Prelude.{◌≡◌, ℕ, ◌+◌, Option, List, ◌++◌, length, Result, Ok, Err}
use Rattle.fo_links.specs.declared.traits.Failed.{Failed}
use Rattle.fo_links.specs.Links.{LosesFront, IsAtEnd}

-- Some bytes came from the source to the end of what waits; none only at the source's end.
pub record FilledSome (left left' : Option (List ℕ)) (room room' : ℕ) (waiting waiting' : List ℕ) (n : ℕ) : Type 0 where
  pub came : List ℕ
  pub count : n ≡ length came
  pub lost : LosesFront came left left'
  pub fewer : room' + n ≡ room
  pub gained : waiting' ≡ waiting ++ came
  pub ended : n ≡ 0 → IsAtEnd left'

-- Nothing came.
pub record FilledNone (left left' : Option (List ℕ)) (room room' : ℕ) (waiting waiting' : List ℕ) : Type 0 where
  pub left_stays : left' ≡ left
  pub room_stays : room' ≡ room
  pub waiting_stays : waiting' ≡ waiting

abbrev pub Filled : Option (List ℕ) → Option (List ℕ) → ℕ → ℕ → List ℕ → List ℕ → Result ℕ Failed → Type 0
Filled left left' room room' waiting waiting' (Ok n) = FilledSome left left' room room' waiting waiting' n
Filled left left' room room' waiting waiting' (Err e) = FilledNone left left' room room' waiting waiting'
