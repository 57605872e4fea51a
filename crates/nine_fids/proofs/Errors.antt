-- The texts of failures are texts.
use Rattle.std.proofs.Common.{◌≡◌, ℕ, ◌+◌, ◌%◌, ◌^◌, ◌<◌, false, List, [], ◌∷◌, ◌++◌, refl, ◌∙◌, arith}
use Rattle.std.specs.Prelude.{codes, ◌==◌}
use Rattle.std.specs.Fmt.{decimal}
use Rattle.std.specs.Str.{is_utf8, IsUtf8, chars}
use lib.Utf8.{encode}
use Rattle.std.proofs.lemmas.Bool.Decides.{nat_tests}
use Rattle.std.proofs.lemmas.Fmt.{IsAscii-decimal, decimal_by_steps}
use Rattle.std.proofs.lemmas.List.Folds.{list_any-append}
use Rattle.std.proofs.lemmas.Str.{IsUtf8-append, IsUtf8-from_ascii, IsUtf8-from_is_utf8, is_utf8-from_IsUtf8}
use Rattle.fo_base.specs.Text.{has_zero, IsText}
use Rattle.fo_world.specs.declared.error.FileError.{FileError}
use Rattle.fo_world.specs.declared.error.FileError.TheVariants as error
use Rattle.fo_world.specs.Texts.{error_text}

digit_is_none : (n : ℕ) → has_zero ((48 + n) ∷ []) ≡ false
digit_is_none n = grind (arith, nat_tests)

no_zero : (n : ℕ) → n < 2 ^ 64 → has_zero (decimal n) ≡ false
no_zero n lt = decimal_by_steps (λ _ ds. has_zero ds ≡ false) (λ k h. digit_is_none k) (λ k ds h e. list_any-append _ ds ((48 + k % 10) ∷ []) ∙ rw (e, digit_is_none (k % 10)) refl) n lt

pub damaged_is_text : (b : ℕ) → b < 2 ^ 64 → IsText (error_text (error.Damaged b))
unfolding is_utf8 chars encode
damaged_is_text b lt =
    let front : List ℕ = codes "damaged block " in
    let utf8 : IsUtf8 (front ++ decimal b) = IsUtf8-append front (decimal b) (IsUtf8-from_is_utf8 front refl) (IsUtf8-from_ascii (decimal b) (IsAscii-decimal b lt)) in
    let zero : has_zero (front ++ decimal b) ≡ false = list_any-append (λ (x : ℕ). x == 0) front (decimal b) ∙ rw (no_zero b lt) refl in
    rw (is_utf8-from_IsUtf8 (front ++ decimal b) utf8, zero) refl

pub error_is_text : (e : FileError) → ((b : ℕ) → e ≡ error.Damaged b → ⊥) → IsText (error_text e)
unfolding is_utf8 chars encode
error_is_text error.TooBig other = refl
error_is_text error.Exists other = refl
error_is_text error.Absent other = refl
error_is_text error.NotEmpty other = refl
error_is_text error.TooDeep other = refl
error_is_text error.Full other = refl
error_is_text error.NoNumbers other = refl
error_is_text error.NotDir other = refl
error_is_text error.IsDir other = refl
error_is_text error.ReadOnly other = refl
error_is_text error.Halted other = refl
error_is_text error.Gone other = refl
error_is_text error.DirFull other = refl
error_is_text error.MainRead other = refl
error_is_text error.MainWrite other = refl
error_is_text error.MainSync other = refl
error_is_text error.ArenaRead other = refl
error_is_text error.ArenaWrite other = refl
error_is_text error.ArenaSync other = refl
error_is_text (error.Damaged b) other = absurd (other b refl)
error_is_text error.Memory other = refl
