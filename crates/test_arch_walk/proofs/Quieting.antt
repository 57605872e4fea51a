-- Disks in memory of which each block has one version.
use Rattle.std.proofs.Common.{◌≡◌, ℕ, ◌<◌, List, length, Result, Ok, Err, sym, subst, arith}
use Rattle.std.specs.Result.{IfOk}
use Rattle.fo_disk.specs.Disk.{Block, IsQuiet, settled, versions_of}
use Rattle.fo_disk.specs.Memory.{holds_of}
use Rattle.fo_disk.specs.MemoryLaws.{is_content}
use Rattle.fo_disk.specs.declared.memory.MemDisk.{MemDisk}
use Rattle.fo_disk.proofs.Quiet.{settled-quiet}

pub made_quiet : {E : Type 0} (blocks : List Block) (r : Result MemDisk E) → IfOk r (λ m. holds_of m ≡ settled blocks) → IfOk r (λ m. IsQuiet (holds_of m))
made_quiet blocks (Ok m) e = subst IsQuiet (sym e) (settled-quiet blocks)
made_quiet blocks (Err x) e = tt

-- each block of a disk of so many has a version
pub some_version : (m : MemDisk) (n k : ℕ) → length m.cells.items ≡ n → k < n → 0 < length (versions_of (holds_of m) k)
some_version m n k e lt = (is_content m).some k (omega (arith, e, lt))
