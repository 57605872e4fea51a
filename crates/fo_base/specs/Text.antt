-- Texts: UTF-8 without NUL (intro(5) of the Plan 9 manual).
use Rattle.std.specs.Prelude.{◌≡◌, ℕ, List, Bool, true, ◌==◌, ◌&&◌, not}
use Rattle.std.specs.List.{list_any}
use Rattle.std.specs.Str.{is_utf8}

-- one of the bytes is zero
abbrev pub has_zero : List ℕ → Bool
has_zero bytes = list_any (λ b. b == 0) bytes

abbrev pub is_text : List ℕ → Bool
is_text bytes = is_utf8 bytes && not (has_zero bytes)

abbrev pub IsText : List ℕ → Type 0
IsText bytes = is_text bytes ≡ true
