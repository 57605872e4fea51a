-- The lines of a script, and how each is spelled.
use Rattle.std.specs.Prelude.{◌≡◌, ◌<◌, ◌^◌, ℕ, List, ◌∷◌, ◌++◌, codes}
use Rattle.std.specs.Fmt.{decimal}
use Rattle.hex.specs.Hex.{IsBytes, encode_lower}
use Rattle.fo_lines.specs.declared.line.Line.{Line}
use Rattle.fo_lines.specs.declared.line.Line.TheVariants.{Moment, Message, Drops, Console, Flush, Unlink, Archive, FlushAll, ArchiveAll}

-- a moment has 32 bits, there are sixteen sessions, and what a session is sent are bytes
abbrev pub Fits : Line → Type 0
Fits (Moment seconds) = seconds < 2 ^ 32
Fits (Message session bytes) = (session < 16) × IsBytes bytes
Fits (Drops session) = session < 16
Fits _ = Unit {0}

-- numbers are decimal without leading zeros, and hexadecimal is of lower case
abbrev pub spelling : Line → List ℕ
spelling (Moment seconds) = codes "t " ++ decimal seconds
spelling (Message session bytes) = codes "s " ++ decimal session ++ 32 ∷ encode_lower bytes
spelling (Drops session) = codes "h " ++ decimal session
spelling (Console line) = codes "c " ++ line
spelling Flush = codes "f"
spelling Unlink = codes "u"
spelling Archive = codes "a"
spelling FlushAll = codes "F"
spelling ArchiveAll = codes "A"

-- The bytes spell this line.
pub record Spells (line : Line) (bytes : List ℕ) : Type 0 where
  pub fits : Fits line
  pub spelled : bytes ≡ spelling line
