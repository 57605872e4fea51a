-- Bytes of a file were read.
use Rattle.std.specs.Prelude.{◌≡◌, ◌-◌, ◌<◌, ℕ, false, List, length, min, Result, Ok, Err, IfOk}
use Rattle.fo_ports.specs.State.{State, KeepsAll}
use Rattle.fo_world.specs.declared.error.FileError.{FileError}
use Rattle.fo_world.specs.Tree.{last}
use Rattle.fo_files_at.specs.declared.file.File.{File}
use Rattle.fo_files_at.specs.Held.{FileHolds}
use Rattle.fo_files_at.proofs.Ways.{file_stays}
use Rattle.fo_files_look.specs.Told.{IsRead}

pub is_read : (s u : State) (file : File) (trail : List ℕ) (offset room : ℕ) (r : Result ℕ FileError) → KeepsAll s u → FileHolds s file → file.dir ≡ false → (0 < length trail → file.named.number ≡ last trail)
    → IfOk r (λ n. n ≡ min room (file.first.size - offset)) → IfOk r (IsRead u trail offset room)
is_read s u file trail offset room (Ok n) all holds is_file number count = record { file = file; holds = file_stays s u file all holds; is_file = is_file; number = number; count = count }
is_read s u file trail offset room (Err e) all holds is_file number count = tt
