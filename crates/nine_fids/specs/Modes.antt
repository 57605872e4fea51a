-- Open modes (open(5) of the Plan 9 manual).
use Rattle.std.specs.Prelude.{ℕ, ◌%◌, Bool, true, false, ◌||◌, ◌==◌, Option, Some, None, if◌then◌else◌}
use Rattle.nine_fids.specs.declared.mode.Access.{Access}
use Rattle.nine_fids.specs.declared.mode.Access.TheVariants.{Read, Write, ReadWrite, Execute}
use Rattle.nine_fids.specs.declared.mode.Mode.{Mode}
use Rattle.fo_users.specs.Rights.{has_bit}

abbrev pub access_of : ℕ → Access
access_of mode = if mode % 4 == 0 then Read else (if mode % 4 == 1 then Write else (if mode % 4 == 2 then ReadWrite else Execute))

-- The low two bits say for what; OTRUNC is 0x10, ORCLOSE 0x40, and 0x20 has no effect. Other bits are bad.
abbrev pub mode_of : ℕ → Option Mode
mode_of mode = if has_bit mode 140 then None else Some (record { access = access_of mode; truncate = has_bit mode 16; remove = has_bit mode 64 })

-- Execution reads.
abbrev pub reads : Access → Bool
reads Read = true
reads Write = false
reads ReadWrite = true
reads Execute = true

abbrev pub writes : Access → Bool
writes Read = false
writes Write = true
writes ReadWrite = true
writes Execute = false

abbrev pub executes : Access → Bool
executes Read = false
executes Write = false
executes ReadWrite = false
executes Execute = true

-- it asks to change something: not for other views than the active one
abbrev pub changes : Mode → Bool
changes m = writes m.access || m.truncate || m.remove

-- it asks for more than to read: not for directories
abbrev pub is_more : Mode → Bool
is_more m = changes m || executes m.access
