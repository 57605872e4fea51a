-- The place of each score and kind.
use Rattle.std.proofs.Common.{◌≡◌, ◌⊎◌, ⊎_elim, ℕ, ◌+◌, ◌<◌, Bool, true, false, cond, List, [], ◌∷◌, ◌++◌, length, refl, sym, ◌∙◌, ap, subst, arith}
use Rattle.std.specs.Prelude.{Option, Some, None, IfSome, IfNone}
use Rattle.std.proofs.lemmas.Bool.{cases_eq}
use Rattle.std.proofs.lemmas.List.{get_or_push, length_push, get_or_append_left}
use Rattle.std.proofs.lemmas.Map.Lookups.{exact_pairs, exact_bytes, exact_unsigned}
use Rattle.std.specs.declared.cmp.Ordering.{Ordering}
use Rattle.std.specs.declared.cmp.Ordering.TheVariants.{Less, Equal, Greater}
use Rattle.std.specs.Ordering.{nat_cmp, is_eq}
use Rattle.std.specs.Cmp.Lexicographic.{slice_cmp}
use Rattle.std.specs.BTreeMap.{BTreeMap, get, is_at, Updates}
use Rattle.fo_image.specs.declared.types.ArenaLine.{ArenaLine}
use Rattle.std.proofs.Common.{inl, inr}
use Rattle.venti_store.specs.Held.{Name, no_line, line_at, name_of, HasName}
use Rattle.venti_store.specs.Names.{name_cmp}

is_equal : (o : Ordering) → is_eq o ≡ true → o ≡ Equal
is_equal Less is = cc
is_equal Equal is = refl
is_equal Greater is = cc

same_name : (x y : Name) → is_at (name_cmp x) y ≡ true → x ≡ y
same_name x y is = exact_pairs (slice_cmp nat_cmp) nat_cmp exact_bytes exact_unsigned x y (is_equal (name_cmp x y) is)

pub found_name : (lines : List ArenaLine) (places : BTreeMap Name ℕ)
    → ((name : Name) (place : ℕ) → get name_cmp places name ≡ Some place → place < length lines)
    → ((name : Name) (place : ℕ) → get name_cmp places name ≡ Some place → name_of (line_at lines place) ≡ name)
    → (score : List ℕ) (kind : ℕ) (result : Option ℕ) → result ≡ get name_cmp places (score, kind) → IfSome result (λ place. HasName lines score kind place)
found_name lines places used named score kind (Some place) is = record {
  used = used (score, kind) place (sym is);
  score_is = ap (λ (n : Name). n.0) (named (score, kind) place (sym is));
  kind_is = ap (λ (n : Name). n.1) (named (score, kind) place (sym is));
}
found_name lines places used named score kind None is = tt

pub no_name : (lines : List ArenaLine) (places : BTreeMap Name ℕ)
    → ((place : ℕ) → place < length lines → get name_cmp places (name_of (line_at lines place)) ≡ Some place)
    → (score : List ℕ) (kind : ℕ) (result : Option ℕ) → result ≡ get name_cmp places (score, kind) → IfNone result ((place : ℕ) → ¬ HasName lines score kind place)
no_name lines places found score kind (Some place) is = tt
no_name lines places found score kind None is = λ place h.
    let name_is : name_of (line_at lines place) ≡ (score, kind) = λ i. (h.score_is i, h.kind_is i) in
    let e : None ≡ Some place = is ∙ sym (ap (get name_cmp places) name_is) ∙ found place h.used in
    cc

-- one line more, of a name that no place has
pub record Adding (lines now : List ArenaLine) (places after : BTreeMap Name ℕ) (line : ArenaLine) : Type 0 where
  pub is : now ≡ lines ++ line ∷ []
  pub found : (place : ℕ) → place < length lines → get name_cmp places (name_of (line_at lines place)) ≡ Some place
  pub used : (name : Name) (place : ℕ) → get name_cmp places name ≡ Some place → place < length lines
  pub named : (name : Name) (place : ℕ) → get name_cmp places name ≡ Some place → name_of (line_at lines place) ≡ name
  pub fresh : (place : ℕ) → ¬ HasName lines line.score.0 line.kind place
  pub updates : Updates name_cmp places after (name_of line) (Some (length lines))

module _ {lines now : List ArenaLine} {places after : BTreeMap Name ℕ} {line : ArenaLine} (a : Adding lines now places after line) where
  pub long : length now ≡ length lines + 1
  long = ap length a.is ∙ length_push lines line

  pub here : line_at now (length lines) ≡ line
  here = ap (λ (ls : List ArenaLine). line_at ls (length lines)) a.is ∙ get_or_push lines line no_line (length lines) refl

  pub there : (place : ℕ) → place < length lines → line_at now place ≡ line_at lines place
  there place lt = ap (λ (ls : List ArenaLine). line_at ls place) a.is ∙ get_or_append_left lines (line ∷ []) no_line place lt

  apart : (place : ℕ) → place < length lines → (b : Bool) → is_at (name_cmp (name_of line)) (name_of (line_at lines place)) ≡ b → b ≡ false
  apart place lt false at = refl
  apart place lt true at =
      let e : name_of line ≡ name_of (line_at lines place) = same_name (name_of line) (name_of (line_at lines place)) at in
      absurd (a.fresh place (record { used = lt; score_is = ap (λ (n : Name). n.0) (sym e); kind_is = ap (λ (n : Name). n.1) (sym e) }))

  pub found_more : (place : ℕ) → place < length now → get name_cmp after (name_of (line_at now place)) ≡ Some place
  found_more place lt = ⊎_elim
      (λ last. ap (λ (p : ℕ). get name_cmp after (name_of (line_at now p))) last ∙ ap (λ (l : ArenaLine). get name_cmp after (name_of l)) here ∙ a.updates.1 ∙ ap (λ (p : ℕ). Some p) (sym last))
      (λ other.
      let before : place < length lines = omega (arith, lt, long, other) in
      ap (λ (l : ArenaLine). get name_cmp after (name_of l)) (there place before)
      ∙ a.updates.2 (name_of (line_at lines place)) (apart place before _ refl)
      ∙ a.found place before)
      (cases_eq place (length lines))

  -- what the map has after the change
  had : (name : Name) (place : ℕ) → get name_cmp after name ≡ Some place → ((name_of line ≡ name) × (place ≡ length lines)) ⊎ (get name_cmp places name ≡ Some place)
  had name place at = either (is_at (name_cmp (name_of line)) name) refl
    where
      either : (b : Bool) → is_at (name_cmp (name_of line)) name ≡ b → ((name_of line ≡ name) × (place ≡ length lines)) ⊎ (get name_cmp places name ≡ Some place)
      either true is_here =
          let e = sym (ap (λ (b : Bool). cond b (Some (length lines)) (get name_cmp places name)) is_here) ∙ sym (a.updates.0 name) ∙ at in
          let same : place ≡ length lines = cc in
          inl (same_name (name_of line) name is_here, same)
      either false not_here = inr (sym (a.updates.2 name not_here) ∙ at)

  pub used_more : (name : Name) (place : ℕ) → get name_cmp after name ≡ Some place → place < length now
  used_more name place at = ⊎_elim (λ new. omega (arith, new.1, long)) (λ old. omega (arith, a.used name place old, long)) (had name place at)

  pub named_more : (name : Name) (place : ℕ) → get name_cmp after name ≡ Some place → name_of (line_at now place) ≡ name
  named_more name place at = ⊎_elim
      (λ new. ap (λ (p : ℕ). name_of (line_at now p)) new.1 ∙ ap name_of here ∙ new.0)
      (λ old. ap name_of (there place (a.used name place old)) ∙ a.named name place old)
      (had name place at)

  pub each_more : (P : ArenaLine → Type 0) → ((place : ℕ) → place < length lines → P (line_at lines place)) → P line → (place : ℕ) → place < length now → P (line_at now place)
  each_more P each last place lt = ⊎_elim
      (λ same. subst (λ (p : ℕ). P (line_at now p)) (sym same) (subst P (sym here) last))
      (λ other. let before : place < length lines = omega (arith, lt, long, other) in subst P (sym (there place before)) (each place before))
      (cases_eq place (length lines))
