-- The texts by which refusals of files are told, as in an Rerror (error(5) of the Plan 9 manual).
use Rattle.std.specs.Prelude.{ℕ, List, ◌++◌, codes}
use Rattle.std.specs.Fmt.{decimal}
use Rattle.fo_world.specs.declared.error.FileError.{FileError}
use Rattle.fo_world.specs.declared.error.FileError.TheVariants as error

abbrev pub error_text : FileError → List ℕ
error_text error.TooBig = codes "file too big"
error_text error.Exists = codes "file exists"
error_text error.Absent = codes "file does not exist"
error_text error.NotEmpty = codes "directory not empty"
error_text error.TooDeep = codes "too deep"
error_text error.Full = codes "file system full"
error_text error.NoNumbers = codes "no file numbers left"
error_text error.NotDir = codes "not a directory"
error_text error.IsDir = codes "is a directory"
error_text error.ReadOnly = codes "read only"
error_text error.Halted = codes "halted"
error_text error.Gone = codes "file is gone"
error_text error.DirFull = codes "directory full"
error_text error.MainRead = codes "main read fault"
error_text error.MainWrite = codes "main write fault"
error_text error.MainSync = codes "main sync fault"
error_text error.ArenaRead = codes "arena read fault"
error_text error.ArenaWrite = codes "arena write fault"
error_text error.ArenaSync = codes "arena sync fault"
error_text (error.Damaged b) = codes "damaged block " ++ decimal b
error_text error.Memory = codes "no memory"
