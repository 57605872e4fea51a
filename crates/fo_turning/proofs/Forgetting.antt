-- Clean blocks are forgotten.
use Rattle.std.proofs.Common.{◌≡◌, ⊎_elim, ℕ, ◌<◌, Bool, true, false, cond, nat_eq, List, [], ◌∷◌, length, Some, None, is_some, refl, sym, ap, ◌∙◌, subst, arith}
use Rattle.std.specs.Cmp.{nat_eq_equiv}
use Rattle.std.specs.List.{Contains}
use Rattle.std.specs.Map.{lookup, remove_entry}
use Rattle.std.proofs.lemmas.Bool.{cases_eq}
use Rattle.lru.proofs.CallerLemmas.{Contains-remove_entry}
use Rattle.lru.proofs.Splits.{Contains-cons, Contains-nil}
use Rattle.fo_mind.proofs.of_bring.Buffering.{cut_other, cut_same}
use Rattle.fo_buffers.specs.Held.{Held, cut, held_at, unlisted}

never : {A : Type 0} → true ≡ false → A
never e = cc

-- what isn't found is no entry
pub none_clean : (at : ℕ) (es : List (ℕ × List ℕ)) → is_some (lookup (nat_eq at) es) ≡ false → (bytes : List ℕ) → Contains es (at, bytes) → ⊥
none_clean at [] e bytes c = Contains-nil (at, bytes) c
none_clean at (x ∷ es) e bytes c = by (nat_eq at x.0) refl (λ later. none_clean at es later bytes)
  where
    front : x ≡ (at, bytes) → nat_eq at x.0 ≡ true
    front same = ap (λ (k : ℕ × List ℕ). nat_eq at k.0) same ∙ nat_eq_equiv.refl at

    by : (t : Bool) → nat_eq at x.0 ≡ t → (is_some (lookup (nat_eq at) es) ≡ false → Contains es (at, bytes) → ⊥) → ⊥
    by true is rest = never (sym (ap (λ t. is_some (cond t (Some x.1) (lookup (nat_eq at) es))) is) ∙ e)
    by false is rest = ⊎_elim
        (λ same. never (sym (front same) ∙ is))
        (λ later. rest (sym (ap (λ t. is_some (cond t (Some x.1) (lookup (nat_eq at) es))) is) ∙ e) later)
        (Contains-cons x es (at, bytes) c)

fewer : (at : ℕ) (es : List (ℕ × List ℕ)) → is_some (lookup (nat_eq at) es) ≡ true → length (remove_entry (nat_eq at) es) < length es
fewer at [] e = never (sym e)
fewer at (x ∷ es) e = by (nat_eq at x.0) refl (fewer at es)
  where
    by : (t : Bool) → nat_eq at x.0 ≡ t → (is_some (lookup (nat_eq at) es) ≡ true → length (remove_entry (nat_eq at) es) < length es) → length (cond (nat_eq at x.0) es (x ∷ remove_entry (nat_eq at) es)) < length (x ∷ es)
    by true is rest = subst (λ t. length (cond t es (x ∷ remove_entry (nat_eq at) es)) < length (x ∷ es)) (sym is) (omega arith)
    by false is rest = subst (λ t. length (cond t es (x ∷ remove_entry (nat_eq at) es)) < length (x ∷ es)) (sym is)
        (let n = rest (sym (ap (λ t. is_some (cond t (Some x.1) (lookup (nat_eq at) es))) is) ∙ e) in omega (arith, n))

pub fewer_clean : (at : ℕ) (old new : Held) → new ≡ cut (unlisted old at) at → is_some (lookup (nat_eq at) old.clean) ≡ true → length new.clean < length old.clean
fewer_clean at old new is e = let n = fewer at old.clean e in let same = ap (λ (h : Held). length h.clean) is in omega (arith, n, same)

pub same_cut : (at : ℕ) (old new : Held) → new ≡ cut (unlisted old at) at → held_at old at ≡ None → (b : ℕ) → held_at new b ≡ held_at old b
same_cut at old new is none b = ap (λ (h : Held). held_at h b) is ∙ ⊎_elim
    (λ e. ap (held_at (cut (unlisted old at) at)) e ∙ cut_same (unlisted old at) at ∙ sym none ∙ ap (held_at old) (sym e))
    (λ ne. cut_other (unlisted old at) at b ne)
    (cases_eq b at)

pub cut_clean : (at : ℕ) (old new : Held) → new ≡ cut (unlisted old at) at → (b : ℕ) (bytes : List ℕ) → Contains new.clean (b, bytes) → Contains old.clean (b, bytes)
cut_clean at old new is b bytes c = Contains-remove_entry (nat_eq at) old.clean (b, bytes) (subst (λ (h : Held). Contains h.clean (b, bytes)) is c)
