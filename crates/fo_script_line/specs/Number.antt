-- The numbers by which answers name errors.
use Rattle.std.specs.Prelude.{ℕ}
use Rattle.fo_world.specs.declared.error.FileError.{FileError}
use Rattle.fo_world.specs.declared.error.FileError.TheVariants as error

abbrev pub fault_number : FileError → ℕ
fault_number error.TooBig = 7
fault_number error.Exists = 8
fault_number error.Absent = 9
fault_number error.NotEmpty = 10
fault_number error.TooDeep = 11
fault_number error.Full = 12
fault_number error.NoNumbers = 13
fault_number error.NotDir = 23
fault_number error.IsDir = 24
fault_number error.ReadOnly = 25
fault_number error.Halted = 26
fault_number error.Gone = 27
fault_number error.DirFull = 28
fault_number error.MainRead = 30
fault_number error.MainWrite = 31
fault_number error.MainSync = 32
fault_number error.ArenaRead = 33
fault_number error.ArenaWrite = 34
fault_number error.ArenaSync = 35
fault_number (error.Damaged block) = 36
fault_number error.Memory = 50
