-- The reply lines of the console (fossilcons(8) of the Plan 9 manual).
use Rattle.std.specs.Prelude.{ℕ, ◌^◌, ◌%◌, List, [], ◌∷◌, ◌++◌, Bool, true, false, not, ◌==◌, bit_and, codes, if◌then◌else◌}
use Rattle.std.specs.List.{join_with_byte}
use Rattle.std.specs.Fmt.{decimal, digits}
use Rattle.fo_world.specs.declared.place.Info.{Info}
use Rattle.fo_console.specs.declared.answer.Answer.{Answer}
use Rattle.fo_console.specs.declared.answer.Answer.TheVariants.{Done, Snapped, Epochs, Space, Checked, Stat, Users, Error}

-- the letter where the mode has the bit
abbrev pub flag : ℕ → ℕ → List ℕ → List ℕ
flag mode bit letter = if not (bit_and mode bit == 0) then letter else []

-- DMDIR, DMAPPEND, DMEXCL and DMTMP by a letter each, and the permissions in octal
abbrev pub mode_text : ℕ → List ℕ
mode_text mode =
    flag mode (2 ^ 31) (codes "d") ++ flag mode (2 ^ 30) (codes "a") ++ flag mode (2 ^ 29) (codes "l") ++ flag mode (2 ^ 26) (codes "t") ++ digits 8 false (mode % 512)

abbrev pub line : List ℕ → List ℕ
line text = text ++ 10 ∷ []

abbrev pub snap_line : ℕ → Bool → List ℕ
snap_line epoch archive = line (codes "snap " ++ decimal epoch ++ (if archive then codes " archive" else []))

abbrev pub epoch_line : ℕ → ℕ → List ℕ
epoch_line low high = line (codes "epoch low " ++ decimal low ++ codes " high " ++ decimal high)

abbrev pub space_lines : ℕ → ℕ → ℕ → ℕ → List ℕ
space_lines usable blocks used places =
    line (codes "main " ++ decimal usable ++ codes " of " ++ decimal blocks) ++ line (codes "arena " ++ decimal used ++ codes " of " ++ decimal places)

abbrev pub check_line : ℕ → ℕ → List ℕ
check_line used leaked = line (codes "check ok used " ++ decimal used ++ codes " leaked " ++ decimal leaked)

abbrev pub stat_line : Info → List ℕ
stat_line info =
    line (join_with_byte 32 (codes "stat" ∷ info.name ∷ info.uid ∷ info.gid ∷ info.muid ∷ mode_text info.mode ∷ decimal info.length ∷ decimal info.path ∷ []))

abbrev pub error_line : List ℕ → List ℕ
error_line text = line (codes "error " ++ text)

-- the lines of an answer, each ended by a newline
abbrev pub reply : Answer → List ℕ
reply Done = line (codes "ok")
reply (Snapped epoch archive) = snap_line epoch archive
reply (Epochs low high) = epoch_line low high
reply (Space usable blocks used places) = space_lines usable blocks used places
reply (Checked used leaked) = check_line used leaked
reply (Stat info) = stat_line info
reply (Users table) = table.items
reply (Error text) = error_line text
