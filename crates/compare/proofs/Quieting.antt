-- Disks in memory of which each block has one version.
use Rattle.std.proofs.Common.{◌≡◌, ℕ, ◌+◌, ◌<◌, ◌++◌, ◌∷◌, [], true, false, List, length, ⊎_elim, ◌≤◌, length-append, Result, Ok, Err, sym, ◌∙◌, subst, arith}
use Rattle.std.specs.Prelude.{slice_index}
use Rattle.std.specs.Result.{IfOk, MatchResult, is_ok}
use Rattle.std.proofs.lemmas.Bool.{cases_lt}
use Rattle.std.proofs.lemmas.List.{length-map, get_or_append_left, get_or_push}
use Rattle.fo_disk.specs.Disk.{Block, Content, IsQuiet, latest, latest_of, settled, versions_of}
use Rattle.fo_disk.specs.Memory.{holds_of}
use Rattle.fo_disk.specs.MemoryLaws.{is_content}
use Rattle.fo_disk.specs.declared.memory.MemDisk.{MemDisk}
use Rattle.fo_disk.proofs.Quiet.{quiet-latest, settled-quiet}
use Rattle.fo_sound.specs.Device.{Shows}
use Rattle.fo_format.specs.declared.error.FormatError.{FormatError}
use Rattle.fo_format.specs.Formatted.{Formats, Refuses}
use Rattle.compare.specs.Picks.{Picks}

pub made_quiet : {E : Type 0} (blocks : List Block) (r : Result MemDisk E) → IfOk r (λ m. holds_of m ≡ settled blocks) → IfOk r (λ m. IsQuiet (holds_of m))
made_quiet blocks (Ok m) e = subst IsQuiet (sym e) (settled-quiet blocks)
made_quiet blocks (Err x) e = tt

shown : (holds : Content) (n : ℕ) → IsQuiet holds → length holds ≡ n → 0 < n → Shows holds (latest holds)
shown holds n quiet e some = record { quiet = quiet-latest quiet; some = let l = length-map holds latest_of in omega (arith, l, e, some) }

pub formatted_quiet : (time n : ℕ) (main arena new other : Content) (r : Result Unit FormatError) → IsQuiet main → length main ≡ n → 0 < n → IsQuiet arena → length arena ≡ 16
    → ((image vault : List Block) → Shows main image → Shows arena vault → MatchResult r (λ _. Formats time image vault new other) (Refuses time image vault new other)) → is_ok r ≡ true → IsQuiet new
formatted_quiet time n main arena new other (Ok u) q e some r m f is =
    let h = (f (latest main) (latest arena) (shown main n q e some) (shown arena 16 r m (omega arith))).main_holds in
    subst IsQuiet (sym h.shown.quiet) (settled-quiet h.now)
formatted_quiet time n main arena new other (Err x) q e some r m f is = absurd (clash is)
  where
    clash : false ≡ true → ⊥
    clash h = cc

-- each block of a disk has a version
pub some_version : (m : MemDisk) (k : ℕ) → k < length m.cells.items → 0 < length (versions_of (holds_of m) k)
some_version m k lt = (is_content m).some k lt

pub as_long : (m : MemDisk) (n : ℕ) → length m.cells.items ≡ n → length (holds_of m) ≡ n
as_long m n e = (is_content m).count ∙ e

-- none is picked
pub no_picks : (picks : List ℕ) (content : Content) → length picks ≡ 0 → Picks picks content
no_picks picks content e = record { each = λ k lt. let no : ⊥ = omega (arith, lt, e) in absurd no }

-- one more that is picked
pub one_more : (picks : List ℕ) (one : ℕ) (content : Content) → Picks picks content → one < length (versions_of content (length picks)) → Picks (picks ++ one ∷ []) content
one_more picks one content p lt = record { each = λ k within. ⊎_elim (λ before. first k before) (λ le. last k (at_end k within le)) (cases_lt k (length picks)) }
  where
    first : (k : ℕ) → k < length picks → slice_index (picks ++ one ∷ []) k < length (versions_of content k)
    first k before = subst (λ (n : ℕ). n < length (versions_of content k)) (sym (get_or_append_left picks (one ∷ []) 0 k before)) (p.each k before)

    at_end : (k : ℕ) → k < length (picks ++ one ∷ []) → length picks ≤ k → length picks ≡ k
    at_end k within le = let e : length (picks ++ one ∷ []) ≡ length picks + 1 = length-append picks (one ∷ []) in omega (arith, e, within, le)

    last : (k : ℕ) → length picks ≡ k → slice_index (picks ++ one ∷ []) k < length (versions_of content k)
    last k e = subst (λ (n : ℕ). n < length (versions_of content k)) (sym (get_or_push picks one 0 k e)) (subst (λ (j : ℕ). one < length (versions_of content j)) e lt)
