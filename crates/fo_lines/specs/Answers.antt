-- The lines that answer a script.
use Rattle.std.specs.Prelude.{ℕ, List, [], ◌∷◌, ◌++◌, codes, Option, Some, None}
use Rattle.std.specs.Fmt.{decimal}
use Rattle.hex.specs.Hex.{encode_lower}
use Rattle.fo_lines.specs.declared.write.Archived.{Archived}
use Rattle.fo_lines.specs.declared.write.Archived.TheVariants as archived
use Rattle.fo_lines.specs.declared.write.ArchiveEnd.{ArchiveEnd}
use Rattle.fo_lines.specs.declared.write.ArchiveEnd.TheVariants as end
use Rattle.fo_lines.specs.declared.write.Flushed.{Flushed}
use Rattle.fo_lines.specs.declared.write.Flushed.TheVariants as flushed
use Rattle.fo_lines.specs.declared.write.Unlinked.{Unlinked}
use Rattle.fo_lines.specs.declared.write.Unlinked.TheVariants as unlinked

-- with its newline
abbrev pub line : List ℕ → List ℕ
line text = text ++ 10 ∷ []

abbrev pub reply_line : ℕ → List ℕ → List ℕ
reply_line session bytes = line (codes "s " ++ decimal session ++ 32 ∷ encode_lower bytes)

abbrev pub drops_line : ℕ → List ℕ
drops_line session = line (codes "h " ++ decimal session)

abbrev pub console_line : List ℕ → List ℕ
console_line text = line (codes "c " ++ text)

abbrev pub flushed_line : Flushed → List ℕ
flushed_line flushed.Wrote = line (codes "f wrote")
flushed_line flushed.Synced = line (codes "f synced")
flushed_line flushed.Idle = line (codes "f idle")
flushed_line (flushed.Fault code) = line (codes "f fault " ++ decimal code)

abbrev pub unlinked_line : Unlinked → List ℕ
unlinked_line unlinked.Closed = line (codes "u closed")
unlinked_line unlinked.Waits = line (codes "u waits")
unlinked_line unlinked.Empty = line (codes "u empty")
unlinked_line (unlinked.Fault code) = line (codes "u fault " ++ decimal code)

abbrev pub flushed_all_line : Option ℕ → List ℕ
flushed_all_line None = line (codes "F idle")
flushed_all_line (Some code) = line (codes "F fault " ++ decimal code)

-- what stands behind the letter of an archive turn
abbrev pub end_text : ArchiveEnd → List ℕ
end_text (end.Done score) = line (codes "done " ++ encode_lower score)
end_text end.Idle = line (codes "idle")
end_text (end.Refused code) = line (codes "refused " ++ decimal code)

abbrev pub archived_line : Archived → List ℕ
archived_line archived.More = line (codes "a more")
archived_line (archived.Ended how) = codes "a " ++ end_text how

abbrev pub archived_all_line : ArchiveEnd → List ℕ
archived_all_line how = codes "A " ++ end_text how
