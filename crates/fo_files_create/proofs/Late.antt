-- Refusals once all was looked at.
use Rattle.std.proofs.Common.{◌^◌, ◌<◌, ◌≤◌, ℕ, Bool, List, ◌∙◌}
use Rattle.fo_crash.specs.Images.{Image}
use Rattle.fo_ports.specs.State.{State, Numbers, IsSettled}
use Rattle.fo_world.specs.declared.error.FileError.{FileError}
use Rattle.fo_world.specs.declared.error.FileError.TheVariants as error
use Rattle.fo_world.specs.declared.place.Place.{Place}
use Rattle.fo_files_create_look.specs.of_files_along.Along.{IsBlocks}
use Rattle.fo_files_create_look.specs.Refused.{IsRefused, MayMake}
use Rattle.fo_files_create.specs.Create.{IsLate}

-- what a look refused
pub look_refused : {B : Type 0} (state : B → State) (root : ℕ) (at : Place) (name : List ℕ) (mode : ℕ) (halted : Bool) (numbers room : Type 0) (e : FileError) → IsRefused state root at name mode halted ⊥ ⊥ e → IsRefused state root at name mode halted numbers room e
look_refused state root at name mode halted numbers room error.TooBig is = is
look_refused state root at name mode halted numbers room error.Exists is = is
look_refused state root at name mode halted numbers room error.Absent is = is
look_refused state root at name mode halted numbers room error.NotEmpty is = is
look_refused state root at name mode halted numbers room error.TooDeep is = is
look_refused state root at name mode halted numbers room error.Full is = absurd is.1
look_refused state root at name mode halted numbers room error.NoNumbers is = absurd is.1
look_refused state root at name mode halted numbers room error.NotDir is = is
look_refused state root at name mode halted numbers room error.IsDir is = is
look_refused state root at name mode halted numbers room error.ReadOnly is = is
look_refused state root at name mode halted numbers room error.Halted is = is
look_refused state root at name mode halted numbers room error.Gone is = is
look_refused state root at name mode halted numbers room error.DirFull is = is
look_refused state root at name mode halted numbers room error.MainRead is = is
look_refused state root at name mode halted numbers room error.MainWrite is = is
look_refused state root at name mode halted numbers room error.MainSync is = is
look_refused state root at name mode halted numbers room error.ArenaRead is = is
look_refused state root at name mode halted numbers room error.ArenaWrite is = is
look_refused state root at name mode halted numbers room error.ArenaSync is = is
look_refused state root at name mode halted numbers room (error.Damaged x) is = is
look_refused state root at name mode halted numbers room error.Memory is = is

-- what is refused later
pub late_refused : {B : Type 0} (state : B → State) (root : ℕ) (at : Place) (name : List ℕ) (mode : ℕ) (halted : Bool) (next : ℕ) (e : FileError) → MayMake at mode halted → IsLate next e → IsRefused state root at name mode halted (2 ^ 30 ≤ next) (next < 2 ^ 30) e
late_refused state root at name mode halted next error.TooBig may is = absurd is
late_refused state root at name mode halted next error.Exists may is = absurd is
late_refused state root at name mode halted next error.Absent may is = absurd is
late_refused state root at name mode halted next error.NotEmpty may is = absurd is
late_refused state root at name mode halted next error.TooDeep may is = absurd is
late_refused state root at name mode halted next error.Full may is = (may, is)
late_refused state root at name mode halted next error.NoNumbers may is = (may, is)
late_refused state root at name mode halted next error.NotDir may is = absurd is
late_refused state root at name mode halted next error.IsDir may is = absurd is
late_refused state root at name mode halted next error.ReadOnly may is = absurd is
late_refused state root at name mode halted next error.Halted may is = absurd is
late_refused state root at name mode halted next error.Gone may is = absurd is
late_refused state root at name mode halted next error.DirFull may is = absurd is
late_refused state root at name mode halted next error.MainRead may is = tt
late_refused state root at name mode halted next error.MainWrite may is = tt
late_refused state root at name mode halted next error.MainSync may is = tt
late_refused state root at name mode halted next error.ArenaRead may is = tt
late_refused state root at name mode halted next error.ArenaWrite may is = tt
late_refused state root at name mode halted next error.ArenaSync may is = tt
late_refused state root at name mode halted next (error.Damaged x) may is = tt
late_refused state root at name mode halted next error.Memory may is = tt

-- what blocks refuse where a number is left
pub blocks_late : (next : ℕ) (e : FileError) → next < 2 ^ 30 → IsBlocks e → IsLate next e
blocks_late next error.TooBig left is = absurd is
blocks_late next error.Exists left is = absurd is
blocks_late next error.Absent left is = absurd is
blocks_late next error.NotEmpty left is = absurd is
blocks_late next error.TooDeep left is = absurd is
blocks_late next error.Full left is = left
blocks_late next error.NoNumbers left is = absurd is
blocks_late next error.NotDir left is = absurd is
blocks_late next error.IsDir left is = absurd is
blocks_late next error.ReadOnly left is = absurd is
blocks_late next error.Halted left is = absurd is
blocks_late next error.Gone left is = absurd is
blocks_late next error.DirFull left is = absurd is
blocks_late next error.MainRead left is = tt
blocks_late next error.MainWrite left is = tt
blocks_late next error.MainSync left is = tt
blocks_late next error.ArenaRead left is = tt
blocks_late next error.ArenaWrite left is = tt
blocks_late next error.ArenaSync left is = tt
blocks_late next (error.Damaged x) left is = tt
blocks_late next error.Memory left is = tt

-- what is settled stays so where a number is granted, and no image is
pub settled_numbers : (s u : State) → (u.tells → ⊥) → ((image : Image) → u.may_leave image → u.tells) → Numbers s u → IsSettled s → IsSettled u
settled_numbers s u silent told numbers settled = record {
  settled = record { each = λ image is. absurd (silent (told image is)) };
  clean = λ b dirty. ((numbers.newborn b).1 (settled.clean b (numbers.dirty b dirty)).0, λ h. absurd (silent h));
  empty = numbers.usable.1 ∙ settled.empty;
  cleared = λ b j h. settled.cleared b j (numbers.order.clearing b j h).1;
}
