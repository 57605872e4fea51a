-- What an unlinking turn does.
use Rattle.std.specs.Prelude.{◌≡◌, ◌≢◌, ℕ, List, [], ◌∷◌, Option, None, Some}
use Rattle.std.specs.List.{Contains}
use Rattle.fo_disk.specs.Disk.{Content as Holds}
use Rattle.fo_buffers.specs.Held.{held_at}
use Rattle.fo_labels.specs.Region.{closed_label}
use Rattle.fo_unlink.specs.declared.removal.Removal.{Removal}
use Rattle.fo_unlink.specs.Pending.{Pending}
use Rattle.fo_mind.specs.Parts.{IsPinned, Parts, label_at}
use Rattle.fo_closing.specs.declared.turn.Closing.{Closing}
use Rattle.fo_closing.specs.declared.turn.Closing.TheVariants.{Closed as ClosedIs, Reads, Stays, GivenUp as IsGivenUp, Empty as IsEmpty}
use Rattle.fo_closing.specs.Known.{Looked}
use Rattle.fo_closing.specs.Turned.{GivesUp, Goes, Turned}
use Rattle.fo_turning.specs.declared.unlink.Unlinked.{Unlinked}
use Rattle.fo_turning.specs.declared.unlink.Unlinked.TheVariants.{Closed, Passed, GivenUp, Waits, Empty}
use Rattle.fo_turning.specs.Flushes.{AtIdle}
use Rattle.fo_turning.specs.Freed.{Loosens}

-- what a step of closing answers for a turn; nothing where the content of a block is wanted next
abbrev pub ended : Closing → Option Unlinked
ended (ClosedIs b) = Some (Closed b)
ended (Stays b) = Some (Passed b)
ended (Reads b) = None
ended IsGivenUp = Some GivenUp
ended IsEmpty = Some Empty

-- Nothing of a block is clean any more. What else is clean was so, and what is held stays.
pub record Forgets (at : ℕ) (p q : Parts) : Type 0 where
  pub held : (b : ℕ) → held_at q.held b ≡ held_at p.held b
  pub clean : (b : ℕ) (bytes : List ℕ) → Contains q.held.clean (b, bytes) → Contains p.held.clean (b, bytes)
  pub gone : (bytes : List ℕ) → Contains q.held.clean (at, bytes) → ⊥
  pub room : q.held.room ≡ p.held.room
  pub rest : q ≡ record p { held = q.held }

-- of a block that was closed nothing is clean any more
abbrev pub Forgotten : Closing → Parts → Parts → Type 0
Forgotten (ClosedIs b) p q = Forgets b p q
Forgotten (Stays b) p q = q ≡ p
Forgotten (Reads b) p q = q ≡ p
Forgotten IsGivenUp p q = q ≡ p
Forgotten IsEmpty p q = q ≡ p

-- A step of closing was taken.
pub record Steps (disk : Holds) (answer : Closing) (p q : Parts) (u v : Pending) : Type 0 where
  pub closed : Parts
  pub turned : Turned disk answer p closed u v
  pub forgotten : Forgotten answer closed q

-- Blocks were looked at for the first removal, and no more was done.
pub record Reading (disk : Holds) (p q : Parts) (u v : Pending) : Type 0 where
  pub looked : Looked disk p q
  pub removals : v.removals ≡ u.removals

-- The step with which a turn ends.
abbrev pub Ends : Holds → Unlinked → Parts → Parts → Pending → Pending → Type 0
Ends disk (Closed b) p q u v = (closed : Parts) × Goes disk (ClosedIs b) p closed u v × Forgets b closed q
Ends disk (Passed b) p q u v = Goes disk (Stays b) p q u v
Ends disk GivenUp p q u v = GivesUp p q u v
Ends disk Waits p q u v = ⊥
Ends disk Empty p q u v = (u.removals ≡ []) × (v ≡ u) × (q ≡ p)

-- A turn of closing was taken.
pub record Closes (disk : Holds) (answer : Unlinked) (p q : Parts) (u v : Pending) : Type 0 where
  pub before : Parts
  pub queue : Pending
  pub reading : Reading disk p before u queue
  pub ends : Ends disk answer before q queue v

-- This block was closed, at the epoch of the first removal, and no other label changed.
pub record Shuts (b : ℕ) (p q : Parts) : Type 0 where
  pub first : Removal
  pub rest : List Removal
  pub is_first : p.removals ≡ first ∷ rest
  pub label : label_at q.region b ≡ closed_label (label_at p.region b) first.epoch
  pub others : (x : ℕ) → x ≢ b → label_at q.region x ≡ label_at p.region x

-- Nothing was to be flushed; what was pinned isn't any more, and then a turn of closing was taken.
pub record Unlinking (disk : Holds) (answer : Unlinked) (p q : Parts) (v : Pending) : Type 0 where
  pub idle : AtIdle p
  pub free : Parts
  pub loosens : Loosens p free
  pub unpinned : (b : ℕ) → IsPinned free.held b → ⊥
  pub queue : Pending
  pub removals : queue.removals ≡ p.removals
  pub closes : Closes disk answer free q queue v

abbrev pub Unlinks : Holds → Unlinked → Parts → Parts → Pending → Type 0
Unlinks disk (Closed b) p q v = Unlinking disk (Closed b) p q v × Shuts b p q
Unlinks disk (Passed b) p q v = Unlinking disk (Passed b) p q v
Unlinks disk GivenUp p q v = Unlinking disk GivenUp p q v
Unlinks disk Waits p q v = (p.removals ≢ []) × (AtIdle p → ⊥) × (q ≡ p)
Unlinks disk Empty p q v = (p.removals ≡ []) × (q ≡ p)
