-- The map of what was stored.
use Rattle.std.proofs.Common.{List, ◌≡◌, ◌⊎◌, ⊎_elim, inl, inr, ℕ, Bool, true, false, cond, refl, sym, ◌∙◌, ap, subst}
use Rattle.std.specs.Prelude.{Option, Some, None, IfSome, Result, Ok, Err, OnOk, OnErr}
use Rattle.std.proofs.lemmas.Map.Lookups.{exact_pairs, exact_unsigned}
use Rattle.std.specs.declared.cmp.Ordering.{Ordering}
use Rattle.std.specs.declared.cmp.Ordering.TheVariants.{Less, Equal, Greater}
use Rattle.std.specs.Ordering.{nat_cmp, is_eq}
use Rattle.std.specs.Map.{lookup}
use Rattle.std.specs.BTreeMap.{BTreeMap, get, is_at, Updates, IsUnchanged}
use Rattle.fo_image.specs.declared.types.Score.{Score}
use Rattle.fo_image.specs.Format.{IsScore}
use Rattle.fo_arch_form.specs.Keys.{key_cmp}
use Rattle.fo_arch_form.specs.declared.stored.Stored.{Stored}
use Rattle.fo_arch_form.specs.Stored.{Adds}

is_equal : (o : Ordering) → is_eq o ≡ true → o ≡ Equal
is_equal Less is = cc
is_equal Equal is = refl
is_equal Greater is = cc

same_key : (x y : ℕ × ℕ) → is_at (key_cmp x) y ≡ true → x ≡ y
same_key x y is = exact_pairs nat_cmp nat_cmp exact_unsigned exact_unsigned x y (is_equal (key_cmp x y) is)

pub real_score : (scores : BTreeMap (ℕ × ℕ) Score) → ((key : ℕ × ℕ) (score : Score) → get key_cmp scores key ≡ Some score → IsScore score.0)
    → (key : ℕ × ℕ) (result : Option Score) → result ≡ get key_cmp scores key → IfSome result (λ s. IsScore s.0)
real_score scores real key (Some score) is = real key score (sym is)
real_score scores real key None is = tt

pub record Inserts (scores after : BTreeMap (ℕ × ℕ) Score) (key : ℕ × ℕ) (score : Score) : Type 0 where
  pub real : (key : ℕ × ℕ) (score : Score) → get key_cmp scores key ≡ Some score → IsScore score.0
  pub is_score : IsScore score.0
  pub updates : Updates key_cmp scores after key (Some score)

module _ {scores after : BTreeMap (ℕ × ℕ) Score} {key : ℕ × ℕ} {score : Score} (u : Inserts scores after key score) where
  had : (k : ℕ × ℕ) (s : Score) → get key_cmp after k ≡ Some s → (s ≡ score) ⊎ (get key_cmp scores k ≡ Some s)
  had k s at = either (is_at (key_cmp key) k) refl
    where
      either : (b : Bool) → is_at (key_cmp key) k ≡ b → (s ≡ score) ⊎ (get key_cmp scores k ≡ Some s)
      either true is_here =
          let e = sym (ap (λ (b : Bool). cond b (Some score) (get key_cmp scores k)) is_here) ∙ sym (u.updates.0 k) ∙ at in
          let same : s ≡ score = cc in
          inl same
      either false not_here = inr (sym (u.updates.2 k not_here) ∙ at)

  pub real_after : (k : ℕ × ℕ) (s : Score) → get key_cmp after k ≡ Some s → IsScore s.0
  real_after k s at = ⊎_elim (λ (same : s ≡ score). subst (λ (x : Score). IsScore x.0) (sym same) u.is_score) (λ old. u.real k s old) (had k s at)

pub other_key : (scores after : BTreeMap (ℕ × ℕ) Score) (at kind a k : ℕ) (score : Score) → Updates key_cmp scores after (at, kind) (Some score) → (a ≡ at → k ≡ kind → ⊥)
    → get key_cmp after (a, k) ≡ get key_cmp scores (a, k)
other_key scores after at kind a k score updates differ = updates.2 (a, k) (apart (is_at (key_cmp (at, kind)) (a, k)) refl)
  where
    apart : (b : Bool) → is_at (key_cmp (at, kind)) (a, k) ≡ b → b ≡ false
    apart false is = refl
    apart true is =
        let e : (at, kind) ≡ (a, k) = same_key (at, kind) (a, k) is in
        absurd (differ (ap (λ (n : ℕ × ℕ). n.0) (sym e)) (ap (λ (n : ℕ × ℕ). n.1) (sym e)))

-- whatever an insertion answers, the scores that are in the map are real
pub real_either : {T E : Type 0} (scores after : BTreeMap (ℕ × ℕ) Score) (key : ℕ × ℕ) (score : Score) (result : Result T E)
    → ((key : ℕ × ℕ) (score : Score) → get key_cmp scores key ≡ Some score → IsScore score.0) → IsScore score.0
    → OnOk result (Updates key_cmp scores after key (Some score)) → OnErr result (IsUnchanged scores after)
    → (k : ℕ × ℕ) (s : Score) → get key_cmp after k ≡ Some s → IsScore s.0
real_either scores after key score (Ok x) real is_score on_ok on_err = real_after {scores = scores} {after = after} {key = key} {score = score} (record { real = real; is_score = is_score; updates = on_ok })
real_either scores after key score (Err e) real is_score on_ok on_err = λ k s at. real k s (ap (λ (es : List ((ℕ × ℕ) × Score)). lookup (is_at (key_cmp k)) es) (sym on_err) ∙ at)

pub adds : (old new : Stored) (at kind : ℕ) (score : Score) → Updates key_cmp old.scores new.scores (at, kind) (Some score) → Adds at kind score old new
adds old new at kind score updates = record {
  here = updates.1;
  others = λ a k differ. other_key old.scores new.scores at kind a k score updates differ;
}
