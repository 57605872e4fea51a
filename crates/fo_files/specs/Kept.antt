-- What calls on files keep, said of the blocks before and after.
use Rattle.std.specs.Prelude.{◌≡◌, ◌+◌, ◌^◌, ◌≤◌, ℕ, Bool, [], false, Result, MatchResult, ◌*◌}
use Rattle.fo_crash.specs.Steps.{AllAre}
use Rattle.fo_ports.specs.State.{State, IsSettled, IsUnlinked, none}
use Rattle.fo_world.specs.declared.error.FileError.{FileError}
use Rattle.fo_world.specs.declared.tree.Body.TheVariants.{Dir}
use Rattle.fo_world.specs.Dated.{adm}
use Rattle.fo_world.specs.Names.{no_names}
use Rattle.fo_world.specs.World.{World}
use Rattle.fo_files_views.specs.Aside.{SaysWhy}
use Rattle.fo_ports.specs.Sources.{Dirties}

-- The world of files of which nothing is told: an empty root.
abbrev pub untold : World
untold = record {
  active = record { root = record { number = 0; vers = 0; mode = 2 ^ 31; atime = 0; mtime = 0; uid = adm; gid = adm; muid = adm; body = Dir no_names } };
  low = 1;
  high = 1;
  snaps = [];
  archives = [];
  pending = 0;
  next = 1;
  halted = false;
  exclusive = [];
}

-- In each world without snapshots and archives the step is refused, and so is the call.
abbrev pub RefusesAs : {A B : Type 0} → (World → Result A FileError) → Result B FileError → Type 0
RefusesAs step r = MatchResult r (λ x. ⊥) (SaysWhy step)

-- All is settled, nothing is to be written but what is newborn, and no slot waits to be cleared.
pub record AllSettled (s : State) : Type 0 where
  pub settled : AllAre s.now s.may_leave
  pub clean : (b : ℕ) → s.dirty b → s.newborn b × (s.tells → IsUnlinked s b)
  pub cleared : (b j : ℕ) → s.clearing b j → ⊥

-- A call that only looks or settles: the blocks keep what they do, as many are usable, what was settled stays so with the same room, and no
-- block is left to be written but by settling.
pub record Keeps (blocks : Type 0) (old new : State) (was_halted halted : Bool) : Type 0 where
  pub keeps : blocks
  pub usable : old.usable ≤ new.usable
  pub settled : IsSettled old → IsSettled new × (new.usable ≡ old.usable)
  pub dirties : Dirties 0 none old new
  pub same_halted : halted ≡ was_halted

-- A call that may change files: the blocks keep what they do, at most so many fewer are usable, and at most twice as many are left to be
-- written, beside what settling left.
pub record Takes (most : ℕ) (blocks : Type 0) (old new : State) (was_halted halted : Bool) : Type 0 where
  pub keeps : blocks
  pub taken : old.usable ≤ new.usable + most
  pub dirties : Dirties (2 * most) none old new
  pub same_halted : halted ≡ was_halted
