-- What the queue keeps.
use Rattle.std.specs.Prelude.{◌≡◌, ◌+◌, ◌^◌, ◌<◌, ◌≤◌, true, List, [], ◌∷◌, All, length, Some, slice_get}
use Rattle.std.specs.VecDeque.{deque_len, deque_capacity}
use Rattle.fo_unlink.specs.declared.removal.Removal.{Removal}
use Rattle.fo_unlink.specs.declared.way.Frame.{Frame}
use Rattle.fo_unlink.specs.declared.queue.Queue.TheInside.{Inside}
use Rattle.fo_unlink.specs.Pending.{IsRemoval}

-- each is a pointer block, and none is above level 4
abbrev pub HasLevels : List Frame → Type 0
HasLevels [] = Unit {0}
HasLevels (f ∷ fs) = (1 ≤ f.level) × (f.level + length fs ≤ 4) × HasLevels fs

pub record IsKept (a : Inside) : Type 0 where
  pub levels : HasLevels a.way
  pub kinds : All IsRemoval a.removals.items
  pub begun : 0 < length a.way → 0 < deque_len a.removals
  pub asked : a.asked ≡ true → 0 < length a.way
  pub whole : 0 < length a.way → (r : Removal) → slice_get a.removals.items 0 ≡ Some r → r.whole ≡ true
  pub room : deque_len a.removals + a.room ≤ deque_capacity a.removals
  pub fits : deque_len a.removals + a.room < 2 ^ 32
