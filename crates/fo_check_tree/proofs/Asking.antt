-- The records of a directory whose pairs are in a leaf of entries: each is marked.
use Rattle.std.proofs.Common.{◌≡◌, ◌≢◌, ⊎_elim, ℕ, ◌+◌, ◌*◌, ◌<◌, ◌≤◌, Bool, true, List, length, get_or, get_or-set_same, get_or-set_other, set, length-set, sym, ap, ◌∙◌, subst, arith}
use Rattle.std.specs.List.{All}
use Rattle.std.proofs.lemmas.Bool.{cases_eq, cases_lt}
use Rattle.fo_image.specs.declared.types.Entry.{Entry}
use Rattle.fo_image.specs.declared.record.Record.{Record}
use Rattle.fo_crash.specs.declared.slot.Slot.TheVariants.{Entry as Head}
use Rattle.fo_crash.specs.Images.{Content}
use Rattle.fo_good.specs.Trees.{IsFirst, IsSecond}
use Rattle.fo_check_names.specs.declared.names.Named.{Named}
use Rattle.fo_check_names.specs.Finds.{Finds}
use Rattle.fo_check_names.specs.Finds.Finds.{none as finds_none, some as finds_some}
use Rattle.fo_check_names.specs.Names.{slot_of}
use Rattle.fo_check_tree.specs.Pairing.{SameRecords, pair_number, IsApart, Asks}
use Rattle.fo_check_tree.specs.Slots.{entry_of}

pub apart_same : (old now : List Named) → SameRecords old now → IsApart old → IsApart now
apart_same old now same a = record {
  sorted = λ i j d le lt.
      let first : slot_of (get_or now i d) ≡ slot_of (get_or old i d) = ap (λ (r : Record). r.slot) (same.each i d (omega (arith, le, lt))) in
      let second : slot_of (get_or now j d) ≡ slot_of (get_or old j d) = ap (λ (r : Record). r.slot) (same.each j d lt) in
      omega (arith, first, second, a.sorted i j d le (omega (arith, lt, same.long)));
  differ = λ i j d less lt e.
      let first : slot_of (get_or now i d) ≡ slot_of (get_or old i d) = ap (λ (r : Record). r.slot) (same.each i d (omega (arith, less, lt))) in
      let second : slot_of (get_or now j d) ≡ slot_of (get_or old j d) = ap (λ (r : Record). r.slot) (same.each j d lt) in
      a.differ i j d less (omega (arith, lt, same.long)) (sym first ∙ e ∙ second);
}

-- records of one slot pair are one
one_of : (xs : List Named) → IsApart xs → (i j : ℕ) (d : Named) → i < length xs → j < length xs → slot_of (get_or xs i d) ≡ slot_of (get_or xs j d) → i ≡ j
one_of xs a i j d li lj e = ⊎_elim
    (λ (same : i ≡ j). same)
    (λ (apart : i ≢ j). ⊎_elim
    (λ (less : i < j). absurd (a.differ i j d less lj e))
    (λ (ge : j ≤ i). absurd (a.differ j i d (omega (arith, ge, apart)) li (sym e)))
    (cases_lt i j))
    (cases_eq i j)

module _ (index : ℕ) (c : Content) (small : index < 27982932961) where
  abbrev first : ℕ → Entry
  first p = entry_of (c.slot (2 * p))

  abbrev second : ℕ → Entry
  second p = entry_of (c.slot (2 * p + 1))

  pub asks_first : (old : List Named) → Asks index c 0 old old
  asks_first old = record { each = λ p lt i d li slot a b. absurd (omega (arith, lt)); kept = λ i d li was none. was }

  module _ (k : ℕ) (low : k < 102) (old now : List Named) (found : Bool) (apart : IsApart now) (a : Asks index c k old now) where
    kept_none : All (λ (n : Named). slot_of n ≢ pair_number index k) now → Asks index c (k + 1) old now
    kept_none none = record {
      each = λ p lt i d li slot x y. ⊎_elim
          (λ (less : p < k). a.each p less i d li slot x y)
          (λ (ge : k ≤ p). let e : p ≡ k = omega (arith, lt, ge) in absurd (none i d li (slot ∙ ap (λ (q : ℕ). pair_number index q) e)))
          (cases_lt p k);
      kept = λ i d li was other. a.kept i d li was (λ p lt. other p (omega (arith, lt)));
    }

    module _ (at : ℕ) (n : Named) (within : at < length now) (read : (d : Named) → get_or now at d ≡ n) (slot_is : slot_of n ≡ pair_number index k) (fits : IsFirst (Head (first k)) n.listed × IsSecond (Head (second k)) n.listed → found ≡ true) where
      abbrev marked : Named
      marked = record n { found = found }

      long : length (set now at marked) ≡ length now
      long = length-set now at marked

      at_same : (i : ℕ) (d : Named) → i ≡ at → get_or (set now at marked) i d ≡ marked
      at_same i d here' = ap (λ (j : ℕ). get_or (set now at marked) j d) here' ∙ get_or-set_same now at marked d within

      pub marks_one : Asks index c (k + 1) old (set now at marked)
      marks_one = record {
        each = λ p lt i d li slot x y. ⊎_elim
            (λ (here' : i ≡ at).
            let is : get_or (set now at marked) i d ≡ marked = at_same i d here' in
            let number : pair_number index k ≡ pair_number index p = sym slot_is ∙ sym (ap (λ (m : Named). slot_of m) is) ∙ slot in
            let e : p ≡ k = omega (arith, number, small, low, lt) in
            ap (λ (m : Named). m.found) is ∙ fits (
              subst (λ (q : ℕ). IsFirst (Head (first q)) n.listed) e (subst (λ (m : Named). IsFirst (Head (first p)) m.listed) is x),
              subst (λ (q : ℕ). IsSecond (Head (second q)) n.listed) e (subst (λ (m : Named). IsSecond (Head (second p)) m.listed) is y),
            ))
            (λ (other : i ≢ at).
            let is : get_or (set now at marked) i d ≡ get_or now i d = get_or-set_other now at i marked d other in
            let lj : i < length now = omega (arith, li, long) in
            let slot' : slot_of (get_or now i d) ≡ pair_number index p = sym (ap (λ (m : Named). slot_of m) is) ∙ slot in
            ⊎_elim
            (λ (less : p < k). ap (λ (m : Named). m.found) is ∙ a.each p less i d lj slot' (subst (λ (m : Named). IsFirst (Head (first p)) m.listed) is x) (subst (λ (m : Named). IsSecond (Head (second p)) m.listed) is y))
            (λ (ge : k ≤ p).
            let e : p ≡ k = omega (arith, lt, ge) in
            let same : slot_of (get_or now i d) ≡ slot_of (get_or now at d) = slot' ∙ ap (λ (q : ℕ). pair_number index q) e ∙ sym slot_is ∙ sym (ap (λ (m : Named). slot_of m) (read d)) in
            absurd (other (one_of now apart i at d lj within same)))
            (cases_lt p k))
            (cases_eq i at);
        kept = λ i d li was other. ⊎_elim
            (λ (here' : i ≡ at). absurd (other k (omega arith) (ap (λ (m : Named). slot_of m) (at_same i d here') ∙ slot_is)))
            (λ (apart' : i ≢ at).
            let is : get_or (set now at marked) i d ≡ get_or now i d = get_or-set_other now at i marked d apart' in
            ap (λ (m : Named). m.found) is ∙ a.kept i d (omega (arith, li, long)) was (λ p lt e. other p (omega (arith, lt)) (ap (λ (m : Named). slot_of m) is ∙ e)))
            (cases_eq i at);
      }

    asks_more : (new : List Named) → Finds (pair_number index k) (first k) (second k) found now new → Asks index c (k + 1) old new
    asks_more new (finds_none unfound same none') = subst (λ (xs : List Named). Asks index c (k + 1) old xs) (sym same) (kept_none (none' apart.sorted))
    asks_more new (finds_some at n within read slot fits is) = subst (λ (xs : List Named). Asks index c (k + 1) old xs) (sym is) (marks_one at n within read slot (λ both. fits.1 both))

    -- the same with what was read
    pub asks_on : (new : List Named) (x y : Entry) (slot : ℕ) → slot ≡ pair_number index k → x ≡ first k → y ≡ second k → Finds slot x y found now new → Asks index c (k + 1) old new
    asks_on new x y slot number is is' f = asks_more new
        (subst (λ (s : ℕ). Finds s (first k) (second k) found now new) number (subst (λ (e : Entry). Finds slot e (second k) found now new) is (subst (λ (e : Entry). Finds slot x e found now new) is' f)))
