-- Disks in memory of which each block has one version.
use Rattle.std.proofs.Common.{◌≡◌, ℕ, ◌<◌, true, false, List, length, Result, Ok, Err, sym, ◌∙◌, subst, arith}
use Rattle.std.specs.Result.{IfOk, OnOk, MatchResult, is_ok}
use Rattle.std.proofs.lemmas.List.{length-map}
use Rattle.fo_disk.specs.Disk.{Block, Content, IsQuiet, IsSure, IsSync, latest, latest_of, settled, versions_of}
use Rattle.fo_disk.specs.Memory.{holds_of, state_of}
use Rattle.fo_disk.specs.MemoryLaws.{is_content}
use Rattle.fo_disk.specs.declared.memory.MemDisk.{MemDisk}
use Rattle.fo_disk.proofs.Quiet.{quiet-latest, settled-quiet, sure-settles}
use Rattle.fo_sound.specs.Device.{Shows}
use Rattle.fo_format.specs.declared.error.FormatError.{FormatError}
use Rattle.fo_format.specs.Formatted.{Formats, Refuses}

pub made_quiet : {E : Type 0} (blocks : List Block) (r : Result MemDisk E) → IfOk r (λ m. holds_of m ≡ settled blocks) → IfOk r (λ m. IsQuiet (holds_of m))
made_quiet blocks (Ok m) e = subst IsQuiet (sym e) (settled-quiet blocks)
made_quiet blocks (Err x) e = tt

shown : (holds : Content) (n : ℕ) → IsQuiet holds → length holds ≡ n → 0 < n → Shows holds (latest holds)
shown holds n quiet e some = record { quiet = quiet-latest quiet; some = let l = length-map holds latest_of in omega (arith, l, e, some) }

pub formatted_quiet : (time : ℕ) (main arena new other : Content) (r : Result Unit FormatError) → IsQuiet main → length main ≡ 64 → IsQuiet arena → length arena ≡ 16
    → ((image vault : List Block) → Shows main image → Shows arena vault → MatchResult r (λ _. Formats time image vault new other) (Refuses time image vault new other)) → is_ok r ≡ true → IsQuiet new
formatted_quiet time main arena new other (Ok u) q n r m f is =
    let h = (f (latest main) (latest arena) (shown main 64 q n (omega arith)) (shown arena 16 r m (omega arith))).main_holds in
    subst IsQuiet (sym h.shown.quiet) (settled-quiet h.now)
formatted_quiet time main arena new other (Err e) q n r m f is = absurd (clash is)
  where
    clash : false ≡ true → ⊥
    clash h = cc

-- what a sync leaves where the last write of each block that isn't settled answered Ok
pub synced_quiet : {E : Type 0} (old new : MemDisk) (r : Result Unit E) → IsSure (state_of old) → IsSync r (state_of old) (state_of new) → OnOk r (IsQuiet (holds_of new))
synced_quiet old new (Ok u) sure s = sure-settles (is_content old) sure s.holds
synced_quiet old new (Err e) sure s = tt

-- each block of a disk of so many has a version
pub some_version : (m : MemDisk) (n k : ℕ) → length m.cells.items ≡ n → k < n → 0 < length (versions_of (holds_of m) k)
some_version m n k e lt = (is_content m).some k (omega (arith, e, lt))

pub as_long : (m : MemDisk) (n : ℕ) → length m.cells.items ≡ n → length (holds_of m) ≡ n
as_long m n e = (is_content m).count ∙ e
