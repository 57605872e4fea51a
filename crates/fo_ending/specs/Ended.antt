-- What the end of a cache leaves.
use Rattle.std.specs.Prelude.{◌≡◌, ◌<◌, ◌≤◌, ℕ, [], length, Result, Ok, Err}
use Rattle.fo_ports.specs.State.{Rests}
use Rattle.fo_mind.specs.Parts.{CacheKeeps, Parts, bytes_at, state_of}
use Rattle.fo_reserving.specs.Steps.{Reserves}
use Rattle.fo_opening.specs.Finished.{Ends}

-- of two calls, the second of which is made whatever the first answers, the first failure
abbrev pub first_of : {E : Type 0} → Result Unit E → Result Unit E → Result Unit E
first_of (Ok u) after = after
first_of (Err e) after = Err e

-- Memory has of each data block that the device tells the bytes that it had.
abbrev pub SameBytes : Parts → Parts → Type 0
SameBytes p q = (b : ℕ) → p.region.first ≤ b → b < length p.disk → bytes_at q.held q.disk b ≡ bytes_at p.held p.disk b

-- What was queued is closed, by turns of closing at rest, and that is settled; no removal is queued.
pub record Drained (p q : Parts) : Type 0 where
  pub closed : Parts
  pub closes : Reserves p closed
  pub ends : Ends closed q
  pub empty : q.removals ≡ []

-- All is settled; then what is queued is closed, by turns of closing at rest; and then that is settled. Where nothing is queued after the
-- first settling, that is all. At the last no removal is queued. From the first to the last what isn't doomed stays, with what every call
-- keeps.
pub record Ended (p q : Parts) : Type 0 where
  pub settled : Parts
  pub closed : Parts
  pub settles : Ends p settled
  pub closes : Reserves settled closed
  pub ends : Ends closed q
  pub once : settled.removals ≡ [] → q ≡ settled
  pub empty : q.removals ≡ []
  pub rests : Rests (state_of p) (state_of q)
  pub keeps : CacheKeeps p q
