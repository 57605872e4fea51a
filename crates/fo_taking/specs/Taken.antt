-- What leaves the tree of memory with one put.
use Rattle.std.specs.Prelude.{◌≡◌, ◌⊎◌, ◌+◌, ℕ, List, [], ◌++◌, ◌<◌, length, Option, Some, None, MatchOption, IfSome}
use Rattle.fo_image.specs.declared.types.Kind.{Kind}
use Rattle.fo_buffers.specs.Held.{Held}
use Rattle.fo_labels.specs.Region.{Region}
use Rattle.fo_buffers.specs.of_crash.declared.slot.Slot.{Slot}
use Rattle.fo_buffers.specs.of_crash.Images.{Image}
use Rattle.fo_takeout.specs.declared.pair.Pair.{Pair}
use Rattle.fo_takeout.specs.declared.pair.Met.{Met}
use Rattle.fo_takeout.specs.declared.pair.Change.{Change}
use Rattle.fo_takeout.specs.declared.pair.Change.TheVariants.{Copied, Gained, Lost, Apart}
use Rattle.fo_takeout.specs.declared.walk.Answer.{Answer}
use Rattle.fo_takeout.specs.Meeting.{change, led_to, meeting}
use Rattle.fo_takeout.specs.Walking.{Walking, IsQueued, added, answer, first_pair, given, later, next_in, removals_of, work}
use Rattle.fo_unlink.specs.declared.removal.Removal.{Removal}
use Rattle.fo_unlink.specs.Pending.{Pending}
use Rattle.fo_taking.specs.Shown.{IsMissing, Shows}

abbrev pub LacksFor : Region → Held → Change → Pair → Type 0
LacksFor region held Copied p = IsMissing region held p.old ⊎ IsMissing region held p.new
LacksFor region held Lost p = IsMissing region held p.old
LacksFor region held Gained p = IsMissing region held p.new
LacksFor region held Apart p = ⊥

-- There is no pair, or a block is missing of which the next step needs the bytes.
abbrev pub Lacks : Region → Held → Option Pair → Type 0
Lacks region held None = Unit {0}
Lacks region held (Some p) = LacksFor region held (change p) p

-- One step was taken over what memory has.
pub record Took (now : Image) (w new : Walking) (a : Answer) : Type 0 where
  pub gives : removals_of a ≡ (next_in now w (first_pair w)).0
  pub moves : new ≡ (next_in now w (first_pair w)).1

-- A step was taken; or the walk is as it was, and lacks what it needs.
pub record StepsIf (region : Region) (held : Held) (w new : Walking) (result : Option Answer) : Type 0 where
  pub steps : (now : Image) → Shows now region held → MatchOption result ((new ≡ w) × Lacks region held (first_pair w)) (Took now w new)
  pub queued : IfSome result IsQueued
  pub lowers : IfSome result (λ a. work new < work w)

-- So many removals more are queued, and nothing else of the queue changed.
pub record Pushed (n : ℕ) (old new : Pending) : Type 0 where
  pub room : new.room + n ≡ old.room
  pub rest : new ≡ record old { removals = new.removals; room = new.room }

-- So many steps were taken, which gave these removals, behind those that were queued.
pub record Taking (now : Image) (w new : Walking) (before queued : List Removal) (budget left : ℕ) : Type 0 where
  pub steps : ℕ
  pub gives : queued ≡ before ++ given now steps w
  pub moves : new ≡ later now steps w
  pub count : length (given now steps w) + left ≡ budget

-- The walk came to its end, or to a block that is missing, or nothing is left of the removals that it may give.
pub record Ends (now : Image) (region : Region) (held : Held) (w new : Walking) (before queued : List Removal) (budget : ℕ) : Type 0 where
  pub left : ℕ
  pub taking : Taking now w new before queued budget left
  pub why : (left ≡ 0) ⊎ Lacks region held (first_pair new)

-- what a put of a slot says: as a walk that begins, and what its first answer is
abbrev pub begun : Walking → ℕ → ℕ → Walking
begun w at epoch = record w { after = at; epoch = epoch }

abbrev pub met : Kind → Slot → Slot → Met
met kind old new = meeting (led_to kind old) (led_to kind new)

-- What a put of a slot of block `at` gives: what the slots say, and then what a walk gives over what memory has. The walk is over then;
-- its room is what its steps left.
pub record TakesOut (now : Image) (region : Region) (held : Held) (w over : Walking) (at epoch : ℕ) (kind : Kind) (old new : Slot) (before queued : List Removal) (budget : ℕ) : Type 0 where
  pub left : ℕ
  pub first : length (removals_of (answer (begun w at epoch) (met kind old new))) + left ≡ budget
  pub last : Walking
  pub ends : Ends now region held (added (begun w at epoch) (met kind old new)) last (before ++ removals_of (answer (begun w at epoch) (met kind old new))) queued left
  pub stops : over ≡ record last { pairs = []; done = 0 }
