-- What a walk has still to look at, and what its steps give.
use Rattle.std.specs.Prelude.{◌≡◌, ◌+◌, ◌-◌, ◌*◌, ◌<◌, ℕ, zero, suc, Bool, true, false, cond, nat_lt, List, [], ◌∷◌, ◌++◌, drop, length, Option, Some, None, slice_get}
use Rattle.fo_slots.specs.of_crash.Images.{Content, Image}
use Rattle.fo_unlink.specs.declared.removal.Removal.{Removal}
use Rattle.fo_unlink.specs.Pending.{IsRemoval}
use Rattle.fo_slots.specs.Read.{read}
use Rattle.fo_takeout.specs.declared.pair.Below.{Below}
use Rattle.fo_takeout.specs.declared.pair.Pair.{Pair}
use Rattle.fo_takeout.specs.declared.pair.Met.{Met}
use Rattle.fo_takeout.specs.declared.pair.Met.TheVariants.{Nothing, Alone, Whole, Follows}
use Rattle.fo_takeout.specs.declared.walk.Answer.{Answer}
use Rattle.fo_takeout.specs.declared.walk.Answer.TheVariants.{Queues, Goes, Over}
use Rattle.fo_takeout.specs.Meeting.{change, items, item, AreGiven}

-- The pairs of blocks that wait, the first of which is looked at; how many of its items are done; how many more pairs may come; and
-- after which block and at which epoch what leaves is to be closed.
pub record Walking : Type 0 where
  pub pairs : List Pair
  pub done : ℕ
  pub room : ℕ
  pub after : ℕ
  pub epoch : ℕ

abbrev pub first_pair : Walking → Option Pair
first_pair w = slice_get w.pairs 0

-- ---- one step

abbrev pub removal : Walking → Below → Bool → Removal
removal w x whole = record { at = x.at; kind = x.kind; whole = whole; epoch = w.epoch; after = w.after }

abbrev pub answer : Walking → Met → Answer
answer w Nothing = Goes
answer w (Alone x) = Queues (removal w x false)
answer w (Whole x) = Queues (removal w x true)
answer w (Follows p) = Goes

-- a pair waits behind all others, where there is room
abbrev pub added : Walking → Met → Walking
added w Nothing = w
added w (Alone x) = w
added w (Whole x) = w
added w (Follows p) = cond (nat_lt 0 w.room) (record w { pairs = w.pairs ++ p ∷ []; room = w.room - 1 }) w

-- one item more of the first pair is done; after its last one the next pair is looked at
abbrev pub passed : Walking → Pair → Walking
passed w p = cond (nat_lt (w.done + 1) (items p)) (record w { done = w.done + 1 }) (record w { pairs = drop 1 w.pairs; done = 0 })

-- The first pair has this item next.
pub record Meets (w : Walking) (p : Pair) (m : Met) (new : Walking) (result : Answer) : Type 0 where
  pub answers : result ≡ answer w m
  pub moves : new ≡ added (passed w p) m

abbrev pub Steps : Walking → Option Pair → List ℕ → List ℕ → Walking → Answer → Type 0
Steps w None old_bytes new_bytes new result = (result ≡ Over) × (new ≡ w)
Steps w (Some p) old_bytes new_bytes new result = Meets w p (item p (read p.old.kind old_bytes) (read p.new.kind new_bytes) w.done) new result

-- the bytes that a step asks for
abbrev pub Asked : Option Pair → List ℕ → List ℕ → Type 0
Asked None old_bytes new_bytes = Unit {0}
Asked (Some p) old_bytes new_bytes = AreGiven (change p) p old_bytes new_bytes

-- the queue takes what is given
abbrev pub IsQueued : Answer → Type 0
IsQueued (Queues r) = IsRemoval r
IsQueued Goes = Unit {0}
IsQueued Over = Unit {0}

-- ---- how long it takes

-- How many steps are left at most, whatever the blocks hold: a block and its 409 slots for each pair that waits or may come.
abbrev pub work : Walking → ℕ
work w = 410 * (w.room + length w.pairs) - w.done

-- ---- a whole walk, over a memory

abbrev pub removals_of : Answer → List Removal
removals_of (Queues r) = r ∷ []
removals_of Goes = []
removals_of Over = []

abbrev pub item_in : Image → Walking → Pair → Met
item_in now w p = item p (now p.old.at) (now p.new.at) w.done

-- the walk after one step, and what it gives
abbrev pub next_in : Image → Walking → Option Pair → List Removal × Walking
next_in now w None = ([], w)
next_in now w (Some p) = (removals_of (answer w (item_in now w p)), added (passed w p) (item_in now w p))

-- what so many steps give, in order
abbrev pub given : Image → ℕ → Walking → List Removal
given now zero w = []
given now (suc n) w = (next_in now w (first_pair w)).0 ++ given now n ((next_in now w (first_pair w)).1)

-- so many steps later
abbrev pub later : Image → ℕ → Walking → Walking
later now zero w = w
later now (suc n) w = later now n ((next_in now w (first_pair w)).1)
