-- What is known of a disk in a file.
use Rattle.std.specs.Prelude.{ℕ, [], Option, Some, None}
use Rattle.std.proofs.Common.{arith}
use Rattle.fo_disk.specs.Disk.{DiskState, AreBytes}

-- the number of blocks, and 0 until it is found
abbrev pub found : Option ℕ → ℕ
found None = 0
found (Some blocks) = blocks

-- nothing is told
abbrev pub silent : DiskState
silent = record { holds = []; moments = []; unsure = [] }

pub silent_bytes : AreBytes silent.holds
silent_bytes = record { each = λ at b i has. absurd (omega (arith, has.1)) }
