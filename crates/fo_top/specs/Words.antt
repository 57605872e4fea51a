-- The words of the program.
use Rattle.std.specs.Prelude.{ℕ, List, [], ◌∷◌, length, ◌&&◌, nat_lt, Option, Some, None, if◌then◌else◌, codes}
use Rattle.std.specs.Str.{bytes_eq}
use Rattle.fo_top.specs.declared.command.Command.{Command}
use Rattle.fo_top.specs.declared.command.Command.TheVariants.{Serve, Turns, Format, Check}

abbrev pub named : List ℕ → Option Command
named word =
    if bytes_eq word (codes "9p") then Some Serve
    else (if bytes_eq word (codes "turns") then Some Turns
    else (if bytes_eq word (codes "flfmt") then Some Format
    else (if bytes_eq word (codes "flchk") then Some Check else None)))

-- a command, and the names of two files, of at least one byte
abbrev pub command_of : List (List ℕ) → Option Command
command_of (command ∷ main ∷ arena ∷ []) = if nat_lt 0 (length main) && nat_lt 0 (length arena) then named command else None
command_of _ = None

-- the command opens both devices, as `9p` and `turns` do
abbrev pub Opens : Option Command → Type 0
Opens (Some Serve) = Unit {0}
Opens (Some Turns) = Unit {0}
Opens (Some Format) = ⊥
Opens (Some Check) = ⊥
Opens None = ⊥
