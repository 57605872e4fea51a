-- What a text that was given or read is.
use Rattle.std.proofs.Common.{◌≡◌, ℕ, ◌≤◌, List, Bool, true, false, cond, ltb, Some, None, length, refl, subst, sym, ap, ◌∙◌}
use Rattle.std.specs.Str.{IsUtf8}
use Rattle.std.proofs.lemmas.Str.{is_utf8-from_IsUtf8}
use Rattle.std.proofs.lemmas.Bool.{ltb-false}
use Rattle.fo_base.specs.Text.{has_zero, is_text, IsText}
use Rattle.nine_fields.specs.Field.{Two}
use Rattle.nine_fields.specs.Reading.{◌>>=◌, block_at, text_at, brief_at}
use Rattle.nine_fields.proofs.Bytes.{bind_some, guard_some, passed_some}

pub text_is : (bytes : List ℕ) → has_zero bytes ≡ false → IsUtf8 bytes → IsText bytes
text_is bytes z u = rw (is_utf8-from_IsUtf8 bytes u, z) refl

pub record IsBrief (text : List ℕ) : Type 0 where
  pub short : length text ≤ 128
  pub is : IsText text

pub brief_is : (bytes text rest : List ℕ) → brief_at bytes ≡ Some (text, rest) → IsBrief text
unfolding brief_at text_at
brief_is bytes text rest e =
    let a = bind_some (text_at bytes) (λ t. cond (ltb 128 (length t.0)) None (Some t)) (text, rest) e in
    let b = bind_some (block_at Two bytes) (λ b. cond (is_text b.0) (Some b) None) a.0 a.1 in
    let g = guard_some (ltb 128 (length a.0.0)) a.0 (text, rest) a.2 in
    let p = passed_some (is_text b.0.0) b.0 a.0 b.2 in
    let t = ap (λ (x : List ℕ × List ℕ). x.0) g.1 in
    let u = ap (λ (x : List ℕ × List ℕ). x.0) p.1 in
    record { short = subst (λ (x : List ℕ). length x ≤ 128) t (ltb-false _ _ g.0); is = subst (λ (x : List ℕ). IsText x) (u ∙ t) p.0 }
