-- What a call on files may answer: the file step's answer, or a failure that has its cause.
use Rattle.std.specs.Prelude.{◌≡◌, ℕ, ◌<◌, ◌≤◌, ◌⊎◌, ⊤, Bool, true, false, IsTrue, if◌then◌else◌, Result, Ok, Err, IfErr, MatchResult, is_ok}
use Rattle.std.proofs.Common.{arith}
use Rattle.fo_base.specs.Cause.{Rose}
use Rattle.fo_world.specs.declared.error.FileError.{FileError}
use Rattle.fo_world.specs.declared.error.FileError.TheVariants as error
use Rattle.fo_world.specs.World.{World, Faults}

-- neither count falls
pub record NotFewer (before after : Faults) : Type 0 where
  pub main : before.main ≤ after.main
  pub arena : before.arena ≤ after.arena

-- with all settled so many blocks are usable, and they are fewer than the need
abbrev pub IsBelow : (ℕ → Type 0) → ℕ → Type 0
IsBelow has_room need = (n : ℕ) × has_room n × (n < need)

-- What has a cause over any devices: a fault comes only where its device's count rose in the call, a damaged block only over devices
-- that are not honest, and full only where the room after the call is below the most that such a call takes.
abbrev pub HasCause : Faults → Faults → Type 0 → (ℕ → Type 0) → ℕ → FileError → Type 0
HasCause before after honest room most error.MainRead = Rose before.main after.main
HasCause before after honest room most error.MainWrite = Rose before.main after.main
HasCause before after honest room most error.MainSync = Rose before.main after.main
HasCause before after honest room most error.ArenaRead = Rose before.arena after.arena
HasCause before after honest room most error.ArenaWrite = Rose before.arena after.arena
HasCause before after honest room most error.ArenaSync = Rose before.arena after.arena
HasCause before after honest room most (error.Damaged b) = ¬ honest
HasCause before after honest room most error.Full = IsBelow room most
HasCause before after honest room most _ = ⊤

-- Over any devices a refusal has its cause; beside these a refusal is the step's where the devices are honest (`Answers`).
abbrev pub Refuses : {A : Type 0} → Faults → Faults → Type 0 → (ℕ → Type 0) → ℕ → Result A FileError → Type 0
Refuses before after honest room most r = IfErr r (HasCause before after honest room most)

-- A call that changes something is granted only where the room is up to the need.
abbrev pub HadRoom : {A : Type 0} → (ℕ → Type 0) → ℕ → Result A FileError → Type 0
HadRoom has_room need r = MatchResult r (λ x. (n : ℕ) → has_room n → need ≤ n) (λ e. ⊤)

-- Why a call may fail beside what the step says. Want of memory is free. The file system is full only where the step grants the call and the room after it is below the need. A fault of a device comes only where its count rose in the call, and a damaged block only over devices that are not honest.
abbrev pub MayFail : Faults → Faults → Type 0 → (ℕ → Type 0) → ℕ → Bool → FileError → Type 0
MayFail before after honest room need granted error.Memory = ⊤
MayFail before after honest room need granted error.Full = IsTrue granted × IsBelow room need
MayFail before after honest room need granted error.MainRead = Rose before.main after.main
MayFail before after honest room need granted error.MainWrite = Rose before.main after.main
MayFail before after honest room need granted error.MainSync = Rose before.main after.main
MayFail before after honest room need granted error.ArenaRead = Rose before.arena after.arena
MayFail before after honest room need granted error.ArenaWrite = Rose before.arena after.arena
MayFail before after honest room need granted error.ArenaSync = Rose before.arena after.arena
MayFail before after honest room need granted (error.Damaged b) = ¬ honest
MayFail before after honest room need granted error.TooBig = ⊥
MayFail before after honest room need granted error.Exists = ⊥
MayFail before after honest room need granted error.Absent = ⊥
MayFail before after honest room need granted error.NotEmpty = ⊥
MayFail before after honest room need granted error.TooDeep = ⊥
MayFail before after honest room need granted error.NoNumbers = ⊥
MayFail before after honest room need granted error.NotDir = ⊥
MayFail before after honest room need granted error.IsDir = ⊥
MayFail before after honest room need granted error.ReadOnly = ⊥
MayFail before after honest room need granted error.Halted = ⊥
MayFail before after honest room need granted error.Gone = ⊥
MayFail before after honest room need granted error.DirFull = ⊥

-- A call gives what the step says, with the world after it; a refusal is the step's, or it has its cause, and it leaves the world.
abbrev pub Answers : {A : Type 0} → Result (A × World) FileError → (Bool → FileError → Type 0) → World → World → Result A FileError → Type 0
Answers told fails old new r = MatchResult r (λ x. told ≡ Ok (x, new)) (λ e. ((told ≡ Err e) ⊎ fails (is_ok told) e) × (new ≡ old))

-- ---- what a call may have touched

-- a failure of a device, which may have come when the change was half made
abbrev pub is_fault : FileError → Bool
is_fault error.MainRead = true
is_fault error.MainWrite = true
is_fault error.MainSync = true
is_fault error.ArenaRead = true
is_fault error.ArenaWrite = true
is_fault error.ArenaSync = true
is_fault _ = false

-- a call that is answered, or in which a device fails, may have touched what it was to change; any other refusal touches nothing
abbrev pub may_touch : {A E : Type 0} → (E → Bool) → Result A E → Bool
may_touch is_failed (Ok x) = true
may_touch is_failed (Err e) = is_failed e

-- the world of what is told, where it is granted, and else the one before it
abbrev pub granted_world : {A E : Type 0} → (A → World) → Result A E → World → World
granted_world world_of (Ok x) old = world_of x
granted_world world_of (Err e) old = old

-- The world that a call went towards, by the one that it was to make and by its answer: no more was touched than what differs between the world before it and this one.
abbrev pub tried : {A E : Type 0} → (E → Bool) → World → World → Result A E → World
tried is_failed goal old r = if may_touch is_failed r then goal else old

-- the world beside something else that is told
abbrev pub world_beside : {A : Type 0} → A × World → World
world_beside p = p.1

-- the same by the step that it was to make
abbrev pub step_tried : {A B : Type 0} → Result (A × World) FileError → World → Result B FileError → World
step_tried told old r = tried is_fault (granted_world world_beside told old) old r

pub not_fewer : (f : Faults) → NotFewer f f
not_fewer f = record { main = omega arith; arena = omega arith }
