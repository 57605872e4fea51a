-- What is known of addresses after a slot was put.
use Rattle.std.proofs.Common.{◌≡◌, ◌≢◌, ⊎_elim, ℕ, ◌<◌, Bool, true, false, not, cond, List, length, set, count_by, Option, refl, sym, ap, ◌∙◌, subst, arith}
use Rattle.std.proofs.lemmas.Bool.{cases_eq}
use Rattle.std.proofs.lemmas.List.{length-set, get_or-set_same, get_or-set_other}
use Rattle.std.proofs.lemmas.List.Sums.{sum_by-set}
use Rattle.fo_image.specs.declared.types.Pointer.{Pointer}
use Rattle.fo_image.specs.declared.types.Pointer.TheVariants.{Nil, Local, Score as Stored}
use Rattle.fo_facts.specs.declared.fact.Fact.{Fact}
use Rattle.fo_facts.specs.Counts.{owes, is_made}
use Rattle.fo_facts.specs.Known.{fact_at, no_fact, origin_over}
use Rattle.fo_raising.specs.Raised.{KeepsCounts, Marked, come, hung, raised_over}

fact_here : (facts : List Fact) (at : ℕ) (f : Fact) → at < length facts → fact_at (set facts at f) at ≡ f
fact_here facts at f lt = get_or-set_same facts at f no_fact lt

fact_other : (facts : List Fact) (at : ℕ) (f : Fact) (b : ℕ) → b ≢ at → fact_at (set facts at f) b ≡ fact_at facts b
fact_other facts at f b ne = get_or-set_other facts at b f no_fact ne

made_same : (facts : List Fact) (at : ℕ) (f : Fact) → at < length facts → f.linked ≡ (fact_at facts at).linked → count_by is_made (set facts at f) ≡ count_by is_made facts
made_same facts at f lt same =
    let e = sum_by-set (λ (x : Fact). cond (is_made x) 1 0) facts at f no_fact lt in
    let s : cond {A = ℕ} (is_made f) 1 0 ≡ cond {A = ℕ} (is_made (fact_at facts at)) 1 0 = ap (λ (b : Bool). cond {A = ℕ} (not b) 1 0) same in
    omega (arith, e, s)

-- where a fact is changed that is as much linked, and owes as much

owed_same : (facts : List Fact) (at : ℕ) (f : Fact) → at < length facts → f.owes ≡ (fact_at facts at).owes → count_by owes (set facts at f) ≡ count_by owes facts
owed_same facts at f lt same =
    let e = sum_by-set (λ (x : Fact). cond (owes x) 1 0) facts at f no_fact lt in
    let s : cond {A = ℕ} (owes f) 1 0 ≡ cond {A = ℕ} (owes (fact_at facts at)) 1 0 = ap (λ (b : Bool). cond {A = ℕ} b 1 0) same in
    omega (arith, e, s)

keeps_none : (facts : List Fact) → KeepsCounts facts facts
keeps_none facts = record { as_long = refl; owed = refl; made = refl; each = λ b. (refl, refl) }

keeps_set : (facts : List Fact) (at : ℕ) (f : Fact) → at < length facts → f.owes ≡ (fact_at facts at).owes → f.linked ≡ (fact_at facts at).linked → KeepsCounts facts (set facts at f)
keeps_set facts at f lt o l = record {
  as_long = length-set facts at f;
  owed = owed_same facts at f lt o;
  made = made_same facts at f lt l;
  each = λ b. ⊎_elim
      (λ e. subst (λ n. ((fact_at (set facts at f) n).owes ≡ (fact_at facts n).owes) × ((fact_at (set facts at f) n).linked ≡ (fact_at facts n).linked)) (sym e)
      (ap (λ (x : Fact). x.owes) (fact_here facts at f lt) ∙ o, ap (λ (x : Fact). x.linked) (fact_here facts at f lt) ∙ l))
      (λ ne. (ap (λ (x : Fact). x.owes) (fact_other facts at f b ne), ap (λ (x : Fact). x.linked) (fact_other facts at f b ne)))
      (cases_eq b at);
}

keeps_on : {a b c : List Fact} → KeepsCounts a b → KeepsCounts b c → KeepsCounts a c
keeps_on f g = record {
  as_long = g.as_long ∙ f.as_long;
  owed = g.owed ∙ f.owed;
  made = g.made ∙ f.made;
  each = λ b. ((g.each b).0 ∙ (f.each b).0, (g.each b).1 ∙ (f.each b).1);
}

keeps_raised : (facts : List Fact) (at b : ℕ) (raised : Bool) → at < length facts → KeepsCounts facts (raised_over facts at b raised)
keeps_raised facts at b true lt = keeps_set facts at (record (fact_at facts at) { origin = origin_over b (fact_at facts b) }) lt refl refl
keeps_raised facts at b false lt = keeps_none facts

pub keeps_noted : (facts : List Fact) (at : ℕ) (to : Pointer) (raised : Bool) → at < length facts → ((b : ℕ) → to ≡ Local b → b < length facts) → KeepsCounts facts (hung facts at to raised)
keeps_noted facts at Nil raised lt within = keeps_none facts
keeps_noted facts at (Stored score) raised lt within = keeps_none facts
keeps_noted facts at (Local b) raised lt within =
    let k = keeps_raised facts at b raised lt in
    let n = k.as_long in
    let w = within b refl in
    keeps_on k (keeps_set (raised_over facts at b raised) b (record (fact_at (raised_over facts at b raised) b) { apart = false }) (omega (arith, n, w)) refl refl)

-- ---- marks

pub same_local : {a b : ℕ} → Local a ≡ Local b → a ≡ b
same_local e = cc

nil_local : {b : ℕ} → Nil ≡ Local b → ⊥
nil_local e = cc

none_stored : {b : ℕ} (score : _) → Stored score ≡ Local b → ⊥
none_stored score e = cc

marked_none : (facts : List Fact) (at : ℕ) (to : Pointer) (raised : Bool) → ((b : ℕ) → to ≡ Local b → ⊥) → Marked at to raised facts facts
marked_none facts at to raised no_to = record {
  others = λ b. (refl, refl, refl, refl);
  apart = λ b ne. refl;
  put = λ b e. absurd (no_to b e);
  origin = λ b ne. refl;
  over = λ b e. absurd (no_to b e);
  calm = λ h. refl;
}

module _ (facts : List Fact) (at b : ℕ) (raised : Bool) (lt : at < length facts) (within : b < length facts) (ne : b ≢ at) where
  abbrev mid : List Fact
  mid = raised_over facts at b raised

  abbrev new : List Fact
  new = come mid b

  long : b < length mid
  long = let n = (keeps_raised facts at b raised lt).as_long in omega (arith, n, within)

  here : fact_at new b ≡ record (fact_at mid b) { apart = false }
  here = fact_here mid b (record (fact_at mid b) { apart = false }) long

  other : (q : ℕ) → q ≢ b → fact_at new q ≡ fact_at mid q
  other q n = fact_other mid b (record (fact_at mid b) { apart = false }) q n

  before : (q : ℕ) → q ≢ at → fact_at mid q ≡ fact_at facts q
  before q n = by raised
    where
      by : (r : Bool) → fact_at (raised_over facts at b r) q ≡ fact_at facts q
      by true = fact_other facts at (record (fact_at facts at) { origin = origin_over b (fact_at facts b) }) q n
      by false = refl

  at_mid : fact_at mid at ≡ record (fact_at facts at) { origin = cond raised (origin_over b (fact_at facts b)) (fact_at facts at).origin }
  at_mid = by raised
    where
      by : (r : Bool) → fact_at (raised_over facts at b r) at ≡ record (fact_at facts at) { origin = cond r (origin_over b (fact_at facts b)) (fact_at facts at).origin }
      by true = fact_here facts at (record (fact_at facts at) { origin = origin_over b (fact_at facts b) }) lt
      by false = refl

  -- what neither call changes
  field : {X : Type 0} (g : Fact → X) → ((f : Fact) → g (record f { apart = false }) ≡ g f) → ((f : Fact) (o : Option ℕ) → g (record f { origin = o }) ≡ g f) → (q : ℕ) → g (fact_at new q) ≡ g (fact_at facts q)
  field g one two q = ⊎_elim
      (λ e. subst (λ n. g (fact_at new n) ≡ g (fact_at facts n)) (sym e) (ap g here ∙ one (fact_at mid b) ∙ mid_field b))
      (λ n. ap g (other q n) ∙ mid_field q)
      (cases_eq q b)
    where
      mid_field : (q : ℕ) → g (fact_at mid q) ≡ g (fact_at facts q)
      mid_field q = ⊎_elim
          (λ e. subst (λ n. g (fact_at mid n) ≡ g (fact_at facts n)) (sym e) (ap g at_mid ∙ two (fact_at facts at) (cond raised (origin_over b (fact_at facts b)) (fact_at facts at).origin)))
          (λ n. ap g (before q n))
          (cases_eq q at)

  mid_apart : (q : ℕ) → (fact_at mid q).apart ≡ (fact_at facts q).apart
  mid_apart q = ⊎_elim
      (λ e. subst (λ n. (fact_at mid n).apart ≡ (fact_at facts n).apart) (sym e) (ap (λ (f : Fact). f.apart) at_mid))
      (λ n. ap (λ (f : Fact). f.apart) (before q n))
      (cases_eq q at)

  new_origin : (q : ℕ) → (fact_at new q).origin ≡ (fact_at mid q).origin
  new_origin q = ⊎_elim
      (λ e. subst (λ n. (fact_at new n).origin ≡ (fact_at mid n).origin) (sym e) (ap (λ (f : Fact). f.origin) here))
      (λ n. ap (λ (f : Fact). f.origin) (other q n))
      (cases_eq q b)

  marked_local : Marked at (Local b) raised facts new
  marked_local = record {
    others = λ q. (field (λ (f : Fact). f.linked) (λ f. refl) (λ f o. refl) q, field (λ (f : Fact). f.fresh) (λ f. refl) (λ f o. refl) q, field (λ (f : Fact). f.sealed) (λ f. refl) (λ f o. refl) q, field (λ (f : Fact). f.rank) (λ f. refl) (λ f o. refl) q);
    apart = λ q n. ap (λ (f : Fact). f.apart) (other q (λ e. n (ap Local (sym e)))) ∙ mid_apart q;
    put = λ q e. subst (λ n. (fact_at new n).apart ≡ false) (same_local e) (ap (λ (f : Fact). f.apart) here);
    origin = λ q n. new_origin q ∙ ap (λ (f : Fact). f.origin) (before q n);
    over = λ q e. new_origin at ∙ ap (λ (f : Fact). f.origin) at_mid ∙ ap (λ n. cond raised (origin_over n (fact_at facts n)) (fact_at facts at).origin) (same_local e);
    calm = λ h. absurd (h b refl);
  }

pub marked_noted : (facts : List Fact) (at : ℕ) (to : Pointer) (raised : Bool) → at < length facts → ((b : ℕ) → to ≡ Local b → (b < length facts) × (b ≢ at)) → Marked at to raised facts (hung facts at to raised)
marked_noted facts at Nil raised lt within = marked_none facts at Nil raised (λ b e. nil_local e)
marked_noted facts at (Stored score) raised lt within = marked_none facts at (Stored score) raised (λ b e. none_stored score e)
marked_noted facts at (Local b) raised lt within = let w = within b refl in marked_local facts at b raised lt w.0 w.1
