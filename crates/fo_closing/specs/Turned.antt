-- What a turn of closing does.
use Rattle.std.specs.Prelude.{◌≡◌, ◌<◌, ℕ, true, [], List, Option, Some}
use Rattle.fo_disk.specs.Disk.{Content as Holds}
use Rattle.fo_unlink.specs.declared.removal.Removal.{Removal}
use Rattle.fo_unlink.specs.Pending.{Pending, dropped, first_removal, way_level}
use Rattle.fo_unlink.specs.Steps.{AsksFor, ClosesNext}
use Rattle.fo_unlink.specs.Work.{work}
use Rattle.fo_mind.specs.Parts.{IsSure, Parts}
use Rattle.fo_closing.specs.declared.turn.Closing.{Closing}
use Rattle.fo_closing.specs.declared.turn.Closing.TheVariants.{Closed as ClosedIs, Reads, Stays, GivenUp, Empty}
use Rattle.fo_closing.specs.Closed.{Closed}
use Rattle.fo_closing.specs.Known.{IsClosable, IsWanted, Looked, kind_below}

-- A block that the queue closes now is closed, at this epoch; or it may not be closed, and nothing changes.
abbrev pub Decided : Closing → Removal → Option ℕ → ℕ → Parts → Parts → Type 0
Decided (ClosedIs b) first level at old new = (b ≡ at) × IsClosable old first (kind_below first.kind level) at × Closed at first.epoch old new
Decided (Stays b) first level at old new = (b ≡ at) × (IsClosable old first (kind_below first.kind level) at → ⊥) × (new ≡ old)
Decided (Reads b) first level at old new = ⊥
Decided GivenUp first level at old new = ⊥
Decided Empty first level at old new = ⊥

-- Steps of the first removal, where it is given this content of the block that is wanted. A block is closed: the next of all that is left,
-- at the epoch of its removal. Or it may not be closed: it stays as it is, and the removal goes on without it. Or the content of a block is
-- wanted next.
abbrev pub Went : Closing → Removal → List ℕ → Parts → Parts → Pending → Pending → Type 0
Went (ClosedIs b) first block old new q r = ClosesNext true q block r b × IsClosable old first (kind_below first.kind (way_level r.way)) b × Closed b first.epoch (record old { removals = r.removals }) new
Went (Stays b) first block old new q r = ClosesNext true q block r b × (IsClosable old first (kind_below first.kind (way_level r.way)) b → ⊥) × (new ≡ record old { removals = r.removals })
Went (Reads b) first block old new q r = AsksFor true q block r b × (new ≡ record old { removals = r.removals })
Went GivenUp first block old new q r = ⊥
Went Empty first block old new q r = ⊥

-- The first removal goes on, since the block after which it comes is settled as memory has it, with the content of the block that is wanted.
pub record Goes (disk : Holds) (answer : Closing) (old new : Parts) (q r : Pending) : Type 0 where
  pub first : Removal
  pub block : List ℕ
  pub mid : Parts
  pub is_first : first_removal q ≡ Some first
  pub sure : IsSure old first.after
  pub known : IsWanted disk old.region old.held q first block
  pub looked : Looked disk old mid
  pub went : Went answer first block mid new q r
  pub less : work r < work q

-- The first removal is given up: at rest the block after which it comes isn't settled.
pub record GivesUp (old new : Parts) (q r : Pending) : Type 0 where
  pub first : Removal
  pub is_first : first_removal q ≡ Some first
  pub unsure : IsSure old first.after → ⊥
  pub is : r ≡ dropped q
  pub rest : new ≡ record old { removals = r.removals }
  pub less : work r < work q

abbrev pub Turned : Holds → Closing → Parts → Parts → Pending → Pending → Type 0
Turned disk (ClosedIs b) old new q r = Goes disk (ClosedIs b) old new q r
Turned disk (Stays b) old new q r = Goes disk (Stays b) old new q r
Turned disk (Reads b) old new q r = Goes disk (Reads b) old new q r
Turned disk GivenUp old new q r = GivesUp old new q r
Turned disk Empty old new q r = (q.removals ≡ []) × (r ≡ q) × (new ≡ old)
