-- What the test of a text comes to.
use Rattle.std.proofs.Common.{◌≡◌, ℕ, List, Bool, true, false, refl}
use Rattle.std.specs.Str.{IsUtf8, is_utf8}
use Rattle.std.proofs.lemmas.Str.{IsUtf8-from_is_utf8, is_utf8-from_IsUtf8}
use Rattle.fo_base.specs.Text.{has_zero, is_text}

pub text_is : (bytes : List ℕ) → has_zero bytes ≡ false → IsUtf8 bytes → true ≡ is_text bytes
text_is bytes z u = rw (is_utf8-from_IsUtf8 bytes u, z) refl

not_utf8 : (bytes : List ℕ) (b : Bool) → is_utf8 bytes ≡ b → (IsUtf8 bytes → ⊥) → is_utf8 bytes ≡ false
not_utf8 bytes true e n = absurd (n (IsUtf8-from_is_utf8 bytes e))
not_utf8 bytes false e n = e

pub text_is_not : (bytes : List ℕ) → (IsUtf8 bytes → ⊥) → false ≡ is_text bytes
text_is_not bytes n = rw (not_utf8 bytes (is_utf8 bytes) refl n) refl
