-- The state of files, and what calls on files answer that only look.
use Rattle.std.specs.Prelude.{◌≡◌, ℕ, ◌⊎◌, ⊤, false, Result, Ok, Err, IfErr, MatchResult}
use Rattle.fo_world.specs.declared.error.FileError.{FileError}
use Rattle.fo_world.specs.World.{World, Faults}
use Rattle.fo_world.specs.Answers.{MayFail, NotFewer}
use Rattle.fo_world.specs.Answers as answers
use Rattle.nine_fids.specs.declared.refusal.Refusal.{Refusal}
use Rattle.nine_fids.specs.declared.refusal.Refusal.TheVariants as refusal
use Rattle.nine_fids.specs.Told.{Files}

-- What is said of files at a moment: how they answer, their world, how many calls of each device failed so far, whether the devices tell
-- what they hold, and how many blocks are usable.
pub record FilesState : Type 1 where
  pub how : Files
  pub world : World
  pub faults : Faults
  pub honest : Type 0
  pub has_room : ℕ → Type 0

-- What holds from one moment to a later one, whatever was called: files answer in one way, no count of failed calls falls, and devices that
-- tell what they hold go on doing so.
pub record Follows (old new : FilesState) : Type 0 where
  pub how : new.how ≡ old.how
  pub faults : NotFewer old.faults new.faults
  pub honest : old.honest → new.honest

-- Over any devices a failure of the files has its cause: a fault only where its device's count rose, damage only where the devices don't
-- tell what they hold, and full only where the room after is below the most that is taken.
abbrev pub HasCause : FilesState → FilesState → ℕ → Refusal → Type 0
HasCause old new most (refusal.File x) = answers.HasCause old.faults new.faults old.honest new.has_room most x
HasCause old new most r = ⊤

-- why a call that only looks may fail: it needs no room
abbrev pub MayMiss : Faults → Faults → Type 0 → FileError → Type 0
MayMiss before after honest x = MayFail before after honest (λ n. ⊥) 0 false x

-- the definition's refusal, or a failure of the files that has its cause
abbrev pub IsRefused : {A : Type 0} → Result A Refusal → (FileError → Type 0) → Refusal → Type 0
IsRefused told fails r = (told ≡ Err r) ⊎ ((x : FileError) × (r ≡ refusal.File x) × fails x)

-- what the definition tells, or a refusal
abbrev pub Tells : {A : Type 0} → Result A Refusal → (FileError → Type 0) → Result A Refusal → Type 0
Tells told fails result = MatchResult result (λ x. told ≡ Ok x) (IsRefused told fails)

-- A call that only looks. Where the devices tell what they hold it answers what the definition tells of the world, which stays. Over any
-- devices a failure has its cause, and is never for want of room.
pub record Looks {A : Type 0} (old new : FilesState) (told : Files → World → Result A Refusal) (result : Result A Refusal) : Type 0 where
  pub answer : old.honest → Tells (told old.how old.world) (MayMiss old.faults new.faults old.honest) result
  pub world : old.honest → new.world ≡ old.world
  pub cause : IfErr result (HasCause old new 0)
