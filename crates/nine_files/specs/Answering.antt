-- What calls that look at files, and calls that change them, answer.
use Rattle.std.specs.Prelude.{◌≡◌, ℕ, ◌≤◌, ⊤, Bool, false, Result, Ok, IfErr, MatchResult, is_ok}
use Rattle.fo_world.specs.declared.error.FileError.{FileError}
use Rattle.fo_world.specs.World.{World}
use Rattle.fo_world.specs.Answers.{MayFail, granted_world, is_fault, tried, world_beside}
use Rattle.nine_fids.specs.Told.{Files}
use Rattle.nine_fids.specs.Looking.{FilesState, HasCause, IsRefused}
use Rattle.nine_fids.specs.declared.refusal.Refusal.{Refusal}
use Rattle.nine_fids.specs.declared.refusal.Refusal.TheVariants as refusal

-- The refusal is a failure of the files that has its cause.
abbrev pub Misses : (FileError → Type 0) → Refusal → Type 0
Misses fails r = (x : FileError) × (r ≡ refusal.File x) × fails x

-- ---- what a call may have touched

-- a failure of a device, which may have come when the change was half made
abbrev pub is_file_fault : Refusal → Bool
is_file_fault (refusal.File x) = is_fault x
is_file_fault r = false

-- the world, where nothing else is told
abbrev pub world_told : World → World
world_told w = w

-- ---- calls that change the world

-- what is told, with the world after it, or a refusal that leaves the world
abbrev pub IsChanged : {A : Type 0} → Result (A × World) Refusal → (FileError → Type 0) → World → World → Result A Refusal → Type 0
IsChanged told fails old new result = MatchResult result (λ x. told ≡ Ok (x, new)) (λ r. IsRefused told fails r × (new ≡ old))

-- the same, where nothing but the world after it is told
abbrev pub IsLed : Result World Refusal → (FileError → Type 0) → World → World → Result (Unit {0}) Refusal → Type 0
IsLed told fails old new result = MatchResult result (λ _. told ≡ Ok new) (λ r. IsRefused told fails r × (new ≡ old))

-- it is granted only where the room is up to the need
abbrev pub HadRoom : {A : Type 0} → (ℕ → Type 0) → ℕ → Result A Refusal → Type 0
HadRoom has_room need r = MatchResult r (λ x. (n : ℕ) → has_room n → need ≤ n) (λ e. ⊤)

-- why a call may fail that needs so many blocks, where it is granted and where it is not
abbrev pub FailsBy : FilesState → FilesState → ℕ → Bool → FileError → Type 0
FailsBy old new need granted x = MayFail old.faults new.faults old.honest new.has_room need granted x

-- A call that changes the world. `touches w n` says that no more was touched than what differs between the world before and w, and no more
-- than n blocks taken. Where the devices tell what they hold it answers what the definition tells of the world, it was granted only with room
-- for its need, and touches what the definition changes by no more blocks than that. Over any devices a failure has its cause, full comes
-- only with less room than `most`, and no more blocks than that were taken.
pub record Changes {A : Type 0} (old new : FilesState) (touches : World → ℕ → Type 0) (told : Files → World → Result (A × World) Refusal) (need : Files → World → ℕ) (most : ℕ) (result : Result A Refusal) : Type 0 where
  pub answer : old.honest → IsChanged (told old.how old.world) (FailsBy old new (need old.how old.world) (is_ok (told old.how old.world))) old.world new.world result
  pub room : old.honest → HadRoom old.has_room (need old.how old.world) result
  pub touched : old.honest → touches (tried is_file_fault (granted_world world_beside (told old.how old.world) old.world) old.world result) (need old.how old.world)
  pub cause : IfErr result (HasCause old new most)
  pub taken : (w : World) × touches w most

-- The same, where nothing but the world after it is told.
pub record Leads (old new : FilesState) (touches : World → ℕ → Type 0) (told : Files → World → Result World Refusal) (need : Files → World → ℕ) (most : ℕ) (result : Result (Unit {0}) Refusal) : Type 0 where
  pub answer : old.honest → IsLed (told old.how old.world) (FailsBy old new (need old.how old.world) (is_ok (told old.how old.world))) old.world new.world result
  pub room : old.honest → HadRoom old.has_room (need old.how old.world) result
  pub touched : old.honest → touches (tried is_file_fault (granted_world world_told (told old.how old.world) old.world) old.world result) (need old.how old.world)
  pub cause : IfErr result (HasCause old new most)
  pub taken : (w : World) × touches w most
