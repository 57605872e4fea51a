-- What a walk keeps.
use Rattle.std.specs.Prelude.{◌≡◌, ◌+◌, ◌^◌, ◌<◌, ◌≤◌, List, [], ◌∷◌, All, ℕ}
use Rattle.std.specs.VecDeque.{deque_len, deque_capacity}
use Rattle.fo_takeout.specs.declared.pair.Pair.{Pair}
use Rattle.fo_takeout.specs.declared.walk.Walk.TheInside.{Inside}
use Rattle.fo_takeout.specs.Meeting.{IsPair, items}
use Rattle.fo_takeout.specs.Walking.{Walking}

abbrev pub view_of : Inside → Walking
view_of a = record { pairs = a.pairs.items; done = a.done; room = a.room; after = a.after; epoch = a.epoch }

-- some item of the first pair is left
abbrev pub HasItem : List Pair → ℕ → Type 0
HasItem [] done = done ≡ 0
HasItem (p ∷ ps) done = done < items p

pub record IsKept (a : Inside) : Type 0 where
  pub each : All IsPair a.pairs.items
  pub left : HasItem a.pairs.items a.done
  pub capacity : deque_len a.pairs + a.room ≤ deque_capacity a.pairs
  pub fits : deque_len a.pairs + a.room < 2 ^ 32
