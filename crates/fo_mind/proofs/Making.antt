-- Whoever was made keeps its room and its places.
use Rattle.std.proofs.Common.{◌≡◌, ⊎_elim, ℕ, zero, suc, ◌+◌, ◌-◌, ◌*◌, ◌<◌, ◌≤◌, ◌&&◌, ◌||◌, Bool, true, false, not, cond, List, length, set, replicate, count_by, Option, refl, sym, ap, ◌∙◌, subst, arith}
use Rattle.std.proofs.lemmas.Bool.{cases_eq}
use Rattle.std.proofs.lemmas.List.{get_or-set_same, get_or-set_other}
use Rattle.std.proofs.lemmas.List.Sums.{sum_by-set}
use Rattle.std.proofs.lemmas.List.Folds.{sum_by-replicate}
use Rattle.fo_order.specs.Keeps.{Turns}
use Rattle.fo_order.specs.Turns.{flag_at}
use Rattle.fo_facts.specs.declared.fact.Fact.{Fact}
use Rattle.fo_facts.specs.Counts.{is_made}
use Rattle.fo_facts.specs.Known.{fact_at, made_fact, no_fact}
use Rattle.fo_mind.specs.Changes.{takes_turn, turned_facts}
use Rattle.fo_mind.specs.Sound.{Making}
use Rattle.fo_mind.specs.Turning.{unpinned_fact}

-- what is known of every address of a list of settled ones
pub known_of : (n b : ℕ) → fact_at (replicate n no_fact) b ≡ no_fact
known_of zero b = refl
known_of (suc n) zero = refl
known_of (suc n) (suc b) = known_of n b

pub unlike : {A : Type 0} → true ≡ false → A
unlike e = absurd (cc)

pub making_opened : (n : ℕ) → Making (replicate n no_fact) 0 0 0 0
making_opened n =
    let o : count_by is_made (replicate n no_fact) ≡ n * 0 = sum_by-replicate (λ (f : Fact). cond (is_made f) 1 0) n no_fact in
    record {
      owing = λ b e. unlike (sym (ap (λ (f : Fact). f.linked) (known_of n b)) ∙ e);
      places = omega (arith, o);
      left = omega (arith, o);
    }

-- of one address something else is known, which is made as it was, or owes
pub making_set : {spare more links removals : ℕ} (facts : List Fact) (at : ℕ) (f : Fact) → at < length facts → f.linked ≡ (fact_at facts at).linked → (f.linked ≡ false → (fact_at facts at).owes ≡ true → f.owes ≡ true)
    → Making facts spare more links removals → Making (set facts at f) spare more links removals
making_set {spare} {more} {links} {removals} facts at f lt same owing m =
    let e = sum_by-set (λ (x : Fact). cond (is_made x) 1 0) facts at f no_fact lt in
    let k : cond {A = ℕ} (is_made f) 1 0 ≡ cond (is_made (fact_at facts at)) 1 0 = ap (λ (b : Bool). cond {A = ℕ} (not b) 1 0) same in
    let p = m.places in
    let r = m.left in
    record {
      owing = λ b un. ⊎_elim
          (λ is. ap (λ n. (fact_at (set facts at f) n).owes) is
          ∙ ap (λ (x : Fact). x.owes) (get_or-set_same facts at f no_fact lt)
          ∙ (let here : f.linked ≡ false = sym (ap (λ (x : Fact). x.linked) (get_or-set_same facts at f no_fact lt)) ∙ ap (λ n. (fact_at (set facts at f) n).linked) (sym is) ∙ un in owing here (m.owing at (sym same ∙ here))))
          (λ ne. ap (λ (x : Fact). x.owes) (get_or-set_other facts at b f no_fact ne) ∙ m.owing b (sym (ap (λ (x : Fact). x.linked) (get_or-set_other facts at b f no_fact ne)) ∙ un))
          (cases_eq b at);
      places = omega (arith, e, k, p);
      left = omega (arith, e, k, r);
    }

-- the same, of the list that a call gave
pub making_noted : {spare more links removals : ℕ} (facts new : List Fact) (at : ℕ) (f : Fact) → at < length facts → new ≡ set facts at f → f.linked ≡ (fact_at facts at).linked → (f.linked ≡ false → (fact_at facts at).owes ≡ true → f.owes ≡ true)
    → Making facts spare more links removals → Making new spare more links removals
making_noted {spare} {more} {links} {removals} facts new at f lt is same owing m = subst (λ (fs : List Fact). Making fs spare more links removals) (sym is) (making_set facts at f lt same owing m)

-- a block was given out, of those that may be made
pub making_given : {spare more links removals : ℕ} (facts new : List Fact) (at rank : ℕ) (origin : Option ℕ) → at < length facts → new ≡ set facts at (made_fact origin rank) → 0 < spare
    → Making facts spare more links removals → Making new (spare - 1) more links removals
making_given {spare} {more} {links} {removals} facts new at rank origin lt is some m = subst (λ (fs : List Fact). Making fs (spare - 1) more links removals) (sym is) (
    let f = made_fact origin rank in
    let e = sum_by-set (λ (x : Fact). cond (is_made x) 1 0) facts at f no_fact lt in
    let p = m.places in
    let r = m.left in
    record {
      owing = λ b un. ⊎_elim
          (λ is. ap (λ n. (fact_at (set facts at f) n).owes) is ∙ ap (λ (x : Fact). x.owes) (get_or-set_same facts at f no_fact lt))
          (λ ne. ap (λ (x : Fact). x.owes) (get_or-set_other facts at b f no_fact ne) ∙ m.owing b (sym (ap (λ (x : Fact). x.linked) (get_or-set_other facts at b f no_fact ne)) ∙ un))
          (cases_eq b at);
      places = omega (arith, e, p, some);
      left = omega (arith, e, r, some);
    })

-- fewer removals are kept, and as much room for them
pub making_fewer : {facts : List Fact} {spare more less links removals room : ℕ} → less + removals ≤ more + room → Making facts spare more links removals → Making facts spare less links room
making_fewer {facts} {spare} {more} {less} {links} {removals} {room} le m =
    let r = m.left in
    record { owing = m.owing; places = m.places; left = omega (arith, r, le) }

-- a block that was changed takes its turn
pub making_turned : {spare more links removals : ℕ} (facts new : List Fact) (t : Turns) (at : ℕ) → at < length facts → new ≡ turned_facts facts t at → Making facts spare more links removals → Making new spare more links removals
making_turned {spare} {more} {links} {removals} facts new t at lt is m = subst (λ (fs : List Fact). Making fs spare more links removals) (sym is) (by (takes_turn facts t at) refl)
  where
    linked_if : (l d : Bool) → (l && not d) ≡ true → l ≡ true
    linked_if true d e = refl
    linked_if false d e = absurd (cc)

    by : (b : Bool) → takes_turn facts t at ≡ b → Making (cond b (set facts at (record (fact_at facts at) { owes = false })) facts) spare more links removals
    by true e = making_set facts at (record (fact_at facts at) { owes = false }) lt refl (λ un. unlike (sym (linked_if (fact_at facts at).linked (flag_at t at).dirty e) ∙ un)) m
    by false e = m

-- a block that is not pinned any more owes only while it isn't linked
pub making_unpinned : {spare more links removals : ℕ} (facts new : List Fact) (at : ℕ) → at < length facts → new ≡ set facts at (unpinned_fact (fact_at facts at)) → Making facts spare more links removals → Making new spare more links removals
making_unpinned facts new at lt is m = making_noted facts new at (unpinned_fact (fact_at facts at)) lt is refl (λ un owes. both (fact_at facts at).owes (fact_at facts at).linked owes un) m
  where
    both : (o l : Bool) → o ≡ true → l ≡ false → (o && not l) ≡ true
    both true false e f = refl
    both true true e f = absurd (cc)
    both false l e f = absurd (cc)

pub or_left : (a b : Bool) → a ≡ true → (a || b) ≡ true
or_left true b e = refl
or_left false b e = absurd (cc)
