-- Blocks are sealed.
use Rattle.std.proofs.Common.{◌≡◌, ◌⊎◌, inl, inr, ⊎_elim, ℕ, zero, suc, ◌+◌, ◌<◌, ◌≤◌, ◌||◌, Bool, true, false, cond, List, [], ◌∷◌, drop, length, set, slice_index_or, refl, sym, ap, ◌∙◌, subst, arith}
use Rattle.std.specs.List.{Contains}
use Rattle.std.proofs.lemmas.Bool.{cases_eq}
use Rattle.std.proofs.lemmas.List.{get_or_past, get_or-set_same, get_or-set_other, length-set}
use Rattle.std.proofs.lemmas.List.Sums.{sum_by-set}
use Rattle.lru.proofs.Splits.{Contains-cons}
use Rattle.fo_facts.specs.declared.fact.Fact.{Fact}
use Rattle.fo_facts.specs.Counts.{is_made, owes}
use Rattle.fo_facts.specs.Known.{fact_at, no_fact}
use Rattle.fo_mind.specs.Sealed.{IsSealedIn, Seals}

abbrev pub sealed_fact : Fact → Fact
sealed_fact f = record f { sealed = f.sealed || f.linked }

pub seals_none : (facts : List Fact) → Seals facts facts
seals_none facts = record {
  counts = record { as_long = refl; owed = refl; made = refl; each = λ b. (refl, refl) };
  apart = λ b. refl;
  origin = λ b. refl;
  fresh = λ b. refl;
  sealed = λ b h. h;
}

pub sealed_past : (facts : List Fact) (at : ℕ) → length facts ≤ at → IsSealedIn facts at
sealed_past facts at le linked = ap (λ (f : Fact). f.sealed) (get_or_past facts at no_fact le)

pub seals_one : (facts new : List Fact) (at : ℕ) → at < length facts → new ≡ set facts at (sealed_fact (fact_at facts at)) → Seals facts new
seals_one facts new at lt is = subst (Seals facts) (sym is) (record {
  counts = record {
    as_long = length-set facts at (sealed_fact (fact_at facts at));
    owed = let e = sum_by-set (λ (x : Fact). cond (owes x) 1 0) facts at (sealed_fact (fact_at facts at)) no_fact lt in omega (arith, e);
    made = let e = sum_by-set (λ (x : Fact). cond (is_made x) 1 0) facts at (sealed_fact (fact_at facts at)) no_fact lt in omega (arith, e);
    each = λ b. (same (λ (f : Fact). f.owes) (λ f. refl) b, same (λ (f : Fact). f.linked) (λ f. refl) b);
  };
  apart = same (λ (f : Fact). f.apart) (λ f. refl);
  origin = same (λ (f : Fact). f.origin) (λ f. refl);
  fresh = same (λ (f : Fact). f.fresh) (λ f. refl);
  sealed = λ b h. ⊎_elim
      (λ e. ap (λ n. (fact_at (set facts at (sealed_fact (fact_at facts at))) n).sealed) e ∙ ap (λ (f : Fact). f.sealed) (get_or-set_same facts at (sealed_fact (fact_at facts at)) no_fact lt) ∙ or_left (fact_at facts at).sealed (fact_at facts at).linked (ap (λ n. (fact_at facts n).sealed) (sym e) ∙ h))
      (λ ne. ap (λ (f : Fact). f.sealed) (get_or-set_other facts at b (sealed_fact (fact_at facts at)) no_fact ne) ∙ h)
      (cases_eq b at);
})
  where
    or_left : (a b : Bool) → a ≡ true → (a || b) ≡ true
    or_left true b e = refl
    or_left false b e = absurd (cc)

    same : {X : Type 0} (g : Fact → X) → ((f : Fact) → g (sealed_fact f) ≡ g f) → (b : ℕ) → g (fact_at (set facts at (sealed_fact (fact_at facts at))) b) ≡ g (fact_at facts b)
    same g h b = ⊎_elim
        (λ e. subst (λ n. g (fact_at (set facts at (sealed_fact (fact_at facts at))) n) ≡ g (fact_at facts n)) (sym e) (ap g (get_or-set_same facts at (sealed_fact (fact_at facts at)) no_fact lt) ∙ h (fact_at facts at)))
        (λ ne. ap g (get_or-set_other facts at b (sealed_fact (fact_at facts at)) no_fact ne))
        (cases_eq b at)

pub sealed_here : (facts new : List Fact) (at : ℕ) → at < length facts → new ≡ set facts at (sealed_fact (fact_at facts at)) → IsSealedIn new at
sealed_here facts new at lt is = subst (λ (fs : List Fact). IsSealedIn fs at) (sym is) (λ linked.
    let here = get_or-set_same facts at (sealed_fact (fact_at facts at)) no_fact lt in
    ap (λ (f : Fact). f.sealed) here ∙ or_right (fact_at facts at).sealed (fact_at facts at).linked (sym (ap (λ (f : Fact). f.linked) here) ∙ linked))
  where
    or_right : (a b : Bool) → b ≡ true → (a || b) ≡ true
    or_right true b e = refl
    or_right false b e = e

pub seals_on : {a b c : List Fact} → Seals a b → Seals b c → Seals a c
seals_on x y = record {
  counts = record {
    as_long = y.counts.as_long ∙ x.counts.as_long;
    owed = y.counts.owed ∙ x.counts.owed;
    made = y.counts.made ∙ x.counts.made;
    each = λ q. ((y.counts.each q).0 ∙ (x.counts.each q).0, (y.counts.each q).1 ∙ (x.counts.each q).1);
  };
  apart = λ q. y.apart q ∙ x.apart q;
  origin = λ q. y.origin q ∙ x.origin q;
  fresh = λ q. y.fresh q ∙ x.fresh q;
  sealed = λ q h. y.sealed q (x.sealed q h);
}

-- what is sealed stays so
pub sealed_on : {a b : List Fact} → Seals a b → (q : ℕ) → IsSealedIn a q → IsSealedIn b q
sealed_on x q h linked = x.sealed q (h (sym (x.counts.each q).1 ∙ linked))

-- ---- one block after another

next_among : (xs : List ℕ) (k d : ℕ) → k < length xs → (b : ℕ) → Contains (drop k xs) b → (slice_index_or xs k d ≡ b) ⊎ Contains (drop (suc k) xs) b
next_among [] k d lt b h = absurd (omega (arith, lt))
next_among (y ∷ ys) zero d lt b h = Contains-cons y ys b h
next_among (y ∷ ys) (suc k) d lt b h = next_among ys k d (omega (arith, lt)) b h

pub each_step : (facts new : List Fact) (xs : List ℕ) (k d : ℕ) → k < length xs → Seals facts new → IsSealedIn new (slice_index_or xs k d) → ((b : ℕ) → Contains xs b → IsSealedIn facts b ⊎ Contains (drop k xs) b)
    → (b : ℕ) → Contains xs b → IsSealedIn new b ⊎ Contains (drop (k + 1) xs) b
each_step facts new xs k d lt seals here each b h = ⊎_elim
    (λ done. inl (sealed_on seals b done))
    (λ rest. ⊎_elim
    (λ e. inl (subst (IsSealedIn new) e here))
    (λ later. inr (subst (λ n. Contains (drop n xs) b) (let one : suc k ≡ k + 1 = omega arith in one) later))
    (next_among xs k d lt b rest))
    (each b h)
