-- The records of a row of leaves of entries, marked one after another.
use Rattle.std.proofs.Common.{◌≡◌, ◌≢◌, ◌⊎◌, ⊎_elim, inl, inr, ℕ, ◌+◌, ◌*◌, ◌/◌, ◌<◌, ◌≤◌, true, false, ltb, List, length, get_or, set, get_or-set_same, get_or-set_other, length-set, refl, sym, ap, ◌∙◌, arith}
use Rattle.std.specs.List.Sorted.{IsNonDecreasingBy, IsPartitionPoint}
use Rattle.std.proofs.lemmas.Bool.{cases_eq, cases_lt}
use borrow.Author.Tests.{ltb-true, ltb-false}
use Rattle.std.proofs.Math.Nat.{div-mul-le_self}
use Rattle.std.proofs.lemmas.Nat.{le-div}
use Rattle.fo_image.specs.declared.record.Record.{Record}
use Rattle.fo_check_names.specs.declared.names.Named.{Named}
use Rattle.fo_check_names.specs.Finds.{leaf_for, row_for, Misses}
use Rattle.fo_check_names.specs.Names.{slot_of}

-- The elements from one place up to another are marked, and are in the row.
pub record IsMissing (row count : ℕ) (old now : List Named) (from at : ℕ) : Type 0 where
  pub long : length now ≡ length old
  pub low : from ≤ at
  pub outside : (i : ℕ) (d : Named) → (i < from) ⊎ (at ≤ i) → get_or now i d ≡ get_or old i d
  pub inside : (i : ℕ) (d : Named) → from ≤ i → i < at → (get_or now i d ≡ record (get_or old i d) { missed = true }) × (row_for count (get_or old i d) ≡ row)

pub missing_none : (row count : ℕ) (old : List Named) (from : ℕ) → IsMissing row count old old from from
missing_none row count old from = record { long = refl; low = omega arith; outside = λ i d c. refl; inside = λ i d ge lt. absurd (omega (arith, ge, lt)) }

module _ (row count : ℕ) (old now : List Named) (from at : ℕ) (m : IsMissing row count old now from at) where
  pub missing_more : at < length now → (n : Named) → ((d : Named) → get_or now at d ≡ n) → row_for count n ≡ row → IsMissing row count old (set now at (record n { missed = true })) from (at + 1)
  missing_more lt n is within = record {
    long = length-set now at (record n { missed = true }) ∙ m.long;
    low = omega (arith, m.low);
    outside = λ i d c.
        let apart : i ≢ at = λ e. ⊎_elim (λ (less : i < from). omega (arith, less, e, m.low)) (λ (ge : at + 1 ≤ i). omega (arith, ge, e)) c in
        let c' : (i < from) ⊎ (at ≤ i) = ⊎_elim (λ (less : i < from). inl less) (λ (ge : at + 1 ≤ i). inr (omega (arith, ge))) c in
        get_or-set_other now at i (record n { missed = true }) d apart ∙ m.outside i d c';
    inside = λ i d ge less. ⊎_elim
        (λ (same : i ≡ at).
        let here : n ≡ get_or old i d = sym (is d) ∙ m.outside at d (inr (omega arith)) ∙ ap (λ (j : ℕ). get_or old j d) (sym same) in
        (ap (λ (j : ℕ). get_or (set now at (record n { missed = true })) j d) same ∙ get_or-set_same now at (record n { missed = true }) d lt ∙ ap (λ (x : Named). record x { missed = true }) here, sym (ap (λ (x : Named). row_for count x) here) ∙ within))
        (λ (apart : i ≢ at).
        let p = m.inside i d ge (omega (arith, less, apart)) in
        (get_or-set_other now at i (record n { missed = true }) d apart ∙ p.0, p.1))
        (cases_eq i at);
  }

  -- where it is: before, in or behind what is marked
  by_place : (R : Type 0) (i : ℕ) → ((i < from) ⊎ (at ≤ i) → R) → (from ≤ i → i < at → R) → R
  by_place R i out in' = ⊎_elim (λ (less : i < from). out (inl less)) (λ (ge : from ≤ i). ⊎_elim (λ (lt : i < at). in' ge lt) (λ (past : at ≤ i). out (inr past)) (cases_lt i at)) (cases_lt i from)

  same_listed : (i : ℕ) (d : Named) → (get_or now i d).listed ≡ (get_or old i d).listed
  same_listed i d = by_place ((get_or now i d).listed ≡ (get_or old i d).listed) i (λ c. ap (λ (x : Named). x.listed) (m.outside i d c)) (λ ge lt. ap (λ (x : Named). x.listed) (m.inside i d ge lt).0)

  same_row : (i : ℕ) (d : Named) → row_for count (get_or now i d) ≡ row_for count (get_or old i d)
  same_row i d = ap (λ (r : Record). r.slot / 102 / count) (same_listed i d)

  module _ (rising : IsNonDecreasingBy slot_of old → IsNonDecreasingBy (row_for count) old) (point : IsNonDecreasingBy slot_of old → IsPartitionPoint (λ n. ltb (row_for count n) row ≡ true) (λ n. ltb (row_for count n) row ≡ false) old from) (stop : (length old ≤ at) ⊎ ((d : Named) → row_for count (get_or now at d) ≡ row → ⊥)) where
    all_in : IsNonDecreasingBy slot_of old → (i : ℕ) (d : Named) → i < length now → row_for count (get_or now i d) ≡ row → (get_or now i d).missed ≡ true
    all_in up i d lt within = ⊎_elim
        (λ (less : i < from).
        let below = ltb-true _ _ ((point up).0 i d (omega (arith, lt, m.long)) less) in
        absurd (omega (arith, below, within, same_row i d)))
        (λ (ge : from ≤ i). ⊎_elim
        (λ (low : i < at). ap (λ (x : Named). x.missed) (m.inside i d ge low).0)
        (λ (past : at ≤ i). ⊎_elim
        (λ (end : length old ≤ at). absurd (omega (arith, end, past, lt, m.long)))
        (λ (out : (d : Named) → row_for count (get_or now at d) ≡ row → ⊥).
        let more : row_for count (get_or old at d) ≤ row_for count (get_or old i d) = rising up at i d past (omega (arith, lt, m.long)) in
        let below = ltb-false _ _ ((point up).1 at d m.low (omega (arith, past, lt, m.long))) in
        let here : row_for count (get_or now at d) ≡ row = omega (arith, more, below, within, same_row i d, same_row at d) in
        absurd (out d here))
        stop)
        (cases_lt i at))
        (cases_lt i from)

    pub missing_all : Misses row count old now
    missing_all = record {
      long = m.long;
      same = λ i d lt. (
        same_listed i d,
        by_place ((get_or now i d).leaf ≡ (get_or old i d).leaf) i (λ c. ap (λ (x : Named). x.leaf) (m.outside i d c)) (λ ge less. ap (λ (x : Named). x.leaf) (m.inside i d ge less).0),
        by_place ((get_or now i d).found ≡ (get_or old i d).found) i (λ c. ap (λ (x : Named). x.found) (m.outside i d c)) (λ ge less. ap (λ (x : Named). x.found) (m.inside i d ge less).0),
      );
      kept = λ i d lt was. by_place ((get_or now i d).missed ≡ true) i (λ c. ap (λ (x : Named). x.missed) (m.outside i d c) ∙ was) (λ ge less. ap (λ (x : Named). x.missed) (m.inside i d ge less).0);
      only = λ i d lt is. by_place (((get_or old i d).missed ≡ true) ⊎ (row_for count (get_or now i d) ≡ row)) i (λ c. inl (sym (ap (λ (x : Named). x.missed) (m.outside i d c)) ∙ is)) (λ ge less. inr (same_row i d ∙ (m.inside i d ge less).1));
      all = all_in;
    }

-- ---- rows rise with slots

div_le : (a b c : ℕ) → 1 ≤ c → a ≤ b → a / c ≤ b / c
div_le a b c pos le = let m : a / c * c ≤ a = div-mul-le_self a c in le-div (a / c) b c (omega (arith, pos)) (omega (arith, m, le))

pub by_row : (count : ℕ) → 1 ≤ count → (named : List Named) → IsNonDecreasingBy slot_of named → IsNonDecreasingBy (row_for count) named
by_row count pos named up = λ i j d le lt. div_le (leaf_for (get_or named i d)) (leaf_for (get_or named j d)) count pos (omega (arith, up i j d le lt))
