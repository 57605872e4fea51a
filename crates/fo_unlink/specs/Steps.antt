-- What a step answers.
use Rattle.std.specs.Prelude.{◌≡◌, ◌≢◌, ℕ, ◌<◌, Bool, true, false, List, [], ◌∷◌, Some, Contains}
use Rattle.fo_unlink.specs.declared.removal.Removal.{Removal}
use Rattle.fo_unlink.specs.declared.removal.Step.{Step}
use Rattle.fo_unlink.specs.declared.removal.Step.TheVariants.{Closes, Reads, Waits, Empty}
use Rattle.fo_unlink.specs.Closing.{Tree}
use Rattle.fo_unlink.specs.Pending.{Pending, left, wanted, reads_left, remaining, first_removal, IsContent}

-- The first removal goes on: the block after which it comes is settled.
pub record GoesOn (settled : Bool) (old new : Pending) (r : Removal) : Type 0 where
  pub first : first_removal old ≡ Some r
  pub settled_is : settled ≡ true
  pub room : new.room ≡ old.room

-- The block is the next one of all that is left, at the epoch of the first removal; and the block with which that begins, where it goes alone.
pub record ClosesNext (settled : Bool) (old : Pending) (block : List ℕ) (new : Pending) (b : ℕ) : Type 0 where
  pub first : Removal
  pub goes_on : GoesOn settled old new first
  pub removals : new.removals ≡ remaining old.removals new.way
  pub unasked : new.asked ≡ false
  pub alone : first.whole ≡ false → b ≡ first.at
  pub next : (tree : Tree) → IsContent tree old block → left tree old ≡ (b, first.epoch) ∷ left tree new

-- The content of a block that is still to be closed is needed. Nothing changes in what is left, and a block is closed after
-- at most so many further readings.
pub record AsksFor (settled : Bool) (old : Pending) (block : List ℕ) (new : Pending) (b : ℕ) : Type 0 where
  pub first : Removal
  pub goes_on : GoesOn settled old new first
  pub removals : new.removals ≡ old.removals
  pub asked : wanted new ≡ Some b
  pub nearer : reads_left new < reads_left old
  pub same : (tree : Tree) → IsContent tree old block → left tree new ≡ left tree old
  pub covered : (tree : Tree) → Contains (left tree new) (b, first.epoch)

-- Nothing is asked for any more, and else nothing changes.
abbrev pub unasked : Pending → Pending
unasked q = record q { asked = false }

abbrev pub Answers : Bool → Pending → List ℕ → Pending → Step → Type 0
Answers settled old block new (Closes b) = ClosesNext settled old block new b
Answers settled old block new (Reads b) = AsksFor settled old block new b
Answers settled old block new Waits = (old.removals ≢ []) × (settled ≡ false) × (new ≡ unasked old)
Answers settled old block new Empty = (old.removals ≡ []) × (new ≡ old)
