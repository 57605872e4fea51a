-- What steps over buffers leave of each block.
use Rattle.std.proofs.Common.{◌≡◌, ◌≢◌, ℕ, Bool, true, false, cond, List, [], ◌∷◌, nat_eq, Some, None, refl, sym, ap, ◌∙◌, eqb-true}
use Rattle.std.specs.Cmp.{nat_cmp_total, unsigned_tied, nat_eq_equiv}
use Rattle.std.specs.Map.{lookup, remove_entry}
use Rattle.std.specs.FinMap.{get, get-insert, get-remove}
use Rattle.fo_buffers.specs.declared.block.Buffer.{Buffer}
use Rattle.fo_buffers.specs.Held.{Held, held_at, put, cut}

pub apart : (a b : ℕ) → a ≢ b → nat_eq a b ≡ false
apart a b ne = by (nat_eq a b) refl
  where
    by : (t : Bool) → nat_eq a b ≡ t → nat_eq a b ≡ false
    by true e = absurd (ne (eqb-true a b e))
    by false e = e

pub put_same : (h : Held) (at : ℕ) (b : Buffer) → held_at (put h at b) at ≡ Some b
put_same h at b = get-insert nat_cmp_total h.held at b at ∙ ap (λ t. cond t (Some b) (get h.held at)) (unsigned_tied at at ∙ nat_eq_equiv.refl at)

pub put_other : (h : Held) (at : ℕ) (b : Buffer) (q : ℕ) → q ≢ at → held_at (put h at b) q ≡ held_at h q
put_other h at b q ne = get-insert nat_cmp_total h.held at b q ∙ ap (λ t. cond t (Some b) (get h.held q)) (unsigned_tied q at ∙ apart q at ne)

pub cut_same : (h : Held) (at : ℕ) → held_at (cut h at) at ≡ None
cut_same h at = get-remove nat_cmp_total h.held at at ∙ ap (λ t. cond t None (get h.held at)) (unsigned_tied at at ∙ nat_eq_equiv.refl at)

pub cut_other : (h : Held) (at q : ℕ) → q ≢ at → held_at (cut h at) q ≡ held_at h q
cut_other h at q ne = get-remove nat_cmp_total h.held at q ∙ ap (λ t. cond t None (get h.held q)) (unsigned_tied q at ∙ apart q at ne)

-- other clean blocks stay
pub lookup_other : {X : Type 0} (at q : ℕ) (es : List (ℕ × X)) → q ≢ at → lookup (nat_eq q) (remove_entry (nat_eq at) es) ≡ lookup (nat_eq q) es
lookup_other at q [] ne = refl
lookup_other at q (e ∷ es) ne = by (nat_eq at e.0) refl (lookup_other at q es ne)
  where
    by : (t : Bool) → nat_eq at e.0 ≡ t → lookup (nat_eq q) (remove_entry (nat_eq at) es) ≡ lookup (nat_eq q) es → lookup (nat_eq q) (cond t es (e ∷ remove_entry (nat_eq at) es)) ≡ lookup (nat_eq q) (e ∷ es)
    by true same rest = sym (ap (λ s. cond s (Some e.1) (lookup (nat_eq q) es)) (apart q e.0 (λ x. ne (x ∙ sym (eqb-true at e.0 same)))))
    by false other rest = ap (cond (nat_eq q e.0) (Some e.1)) rest
