-- The least usable block is found by the numbers of the groups.
use Rattle.std.proofs.Common.{◌≡◌, ◌≢◌, ℕ, ◌+◌, ◌-◌, ◌*◌, ◌/◌, ◌%◌, ◌^◌, ◌<◌, ◌≤◌, Bool, true, false, ltb, leb, Some, None, List, [], ◌∷◌, length, take, drop, set, get_or, slice_index, replicate, min, refl, sym, ap, ◌∙◌, ⊎_elim, arith, length-take, length-drop, suc}
use Rattle.std.specs.List.{position, position_or_len, list_any}
use Rattle.std.proofs.lemmas.Bool.{cases_lt, cases_eq}
use Rattle.std.proofs.lemmas.Bool.Decides.{nat_tests}
use Rattle.std.proofs.lemmas.List.{get_or-take, get_or-drop, get_or-replicate, length-replicate, get_or-set_same, get_or-set_other, length-set, drop-set-lt, drop-set-add, take-set-le, take_all}
use Rattle.std.proofs.lemmas.List.Folds.{list_any_at}
use Rattle.std.proofs.lemmas.List.Sums.{position_or_len_is, fails_before_first}
use Rattle.std.proofs.lemmas.List.Quantifiers.{position-Some}
use Rattle.fo_image.specs.declared.types.Label.{Label}
use Rattle.fo_image.specs.Usable.{is_usable, free_label}
use Rattle.fo_labels.specs.Groups.{AreFloors, IsFloorOf, group_count, part}

-- ---- positions

none_is : {X : Type 0} (p : X → Bool) (xs : List X) (d : X) → ((k : ℕ) → k < length xs → p (get_or xs k d) ≡ false) → None ≡ position p xs
none_is p xs d fails =
    let all = position_or_len_is p xs (length xs) d (omega arith) fails (λ h. absurd (omega arith)) in
    rw all (let t : ltb (length xs) (length xs) ≡ false = grind (arith, nat_tests) in rw t refl)

some_is : {X : Type 0} (p : X → Bool) (xs : List X) (d : X) (i : ℕ) → i < length xs → ((k : ℕ) → k < i → p (get_or xs k d) ≡ false) → p (get_or xs i d) ≡ true → Some i ≡ position p xs
some_is p xs d i inside before here =
    let all = position_or_len_is p xs i d (omega arith) before (λ h. here) in
    rw all (let t : ltb i (length xs) ≡ true = grind (arith, nat_tests) in rw t refl)

none_at : {X : Type 0} (p : X → Bool) (xs : List X) (d : X) (k : ℕ) → None ≡ position p xs → k < length xs → p (get_or xs k d) ≡ false
none_at p xs d k none inside =
    ⊎_elim
    (λ (h : position_or_len p xs < length xs).
    let found : ltb (position_or_len p xs) (length xs) ≡ true = grind (arith, nat_tests) in
    let some = rw found at none in
    absurd (cc))
    (λ (h : length xs ≤ position_or_len p xs). fails_before_first p xs k d (omega arith))
    (cases_lt (position_or_len p xs) (length xs))

not_any : {X : Type 0} (p : X → Bool) (xs : List X) (d : X) (k : ℕ) → list_any p xs ≡ false → k < length xs → p (get_or xs k d) ≡ false
not_any p xs d k none inside = by (p (get_or xs k d)) refl
  where
    by : (b : Bool) → p (get_or xs k d) ≡ b → b ≡ false
    by false e = refl
    by true e = let some = list_any_at p xs k d inside e in absurd (cc)

none_any : {X : Type 0} (p : X → Bool) → (xs : List X) (d : X) → ((k : ℕ) → k < length xs → p (get_or xs k d) ≡ false) → list_any p xs ≡ false
none_any p [] d fails = refl
none_any p (x ∷ xs) d fails = rw (fails 0 (omega arith), none_any p xs d (λ k h. fails (suc k) (omega arith))) refl

-- ---- the labels of a group

part-length : (group : ℕ) (ls : List Label) → length (part group ls) ≡ min 32 (length ls - 32 * group)
part-length group ls = length-take 32 (drop (32 * group) ls) ∙ ap (min 32) (length-drop (32 * group) ls)

part-at : (group k : ℕ) (ls : List Label) → k < 32 → get_or (part group ls) k free_label ≡ get_or ls (32 * group + k) free_label
part-at group k ls inside = get_or-take 32 (drop (32 * group) ls) k free_label inside ∙ get_or-drop (32 * group) ls k free_label

-- the end of a group, where it may be cut short by that of the list
pub part-cut : (group to : ℕ) (ls : List Label) → to ≡ min (length ls) (32 * group + 32) → group < group_count (length ls) → take (to - 32 * group) (drop (32 * group) ls) ≡ part group ls
part-cut group to ls is inside =
    ⊎_elim
    (λ (lt : length ls < 32 * group + 32).
    let n = length-drop (32 * group) ls in
    take_all (to - 32 * group) (drop (32 * group) ls) (omega arith) ∙ sym (take_all 32 (drop (32 * group) ls) (omega arith)))
    (λ (le : 32 * group + 32 ≤ length ls).
    let same : to - 32 * group ≡ 32 = omega arith in
    rw same refl)
    (cases_lt (length ls) (32 * group + 32))

-- ---- the search

module _ (low : ℕ) (labels : List Label) (floors : List ℕ) (small : low < 2 ^ 32) (are : AreFloors labels floors) where
  unusable : (group k : ℕ) → group < length floors → leb (slice_index floors group) low ≡ false → k < length (part group labels) → is_usable low (get_or (part group labels) k free_label) ≡ false
  unusable group k inside above within =
      not_any (is_usable low) (part group labels) free_label k (sym ((are.each group inside).usable low small) ∙ above) within

  unusable_at : (k : ℕ) → k < length labels → leb (slice_index floors (k / 32)) low ≡ false → is_usable low (get_or labels k free_label) ≡ false
  unusable_at k within above =
      let group : k / 32 < length floors = omega (arith, are.long) in
      let place : k % 32 < length (part (k / 32) labels) = omega (arith, part-length (k / 32) labels) in
      let same : 32 * (k / 32) + k % 32 ≡ k = omega arith in
      let there = part-at (k / 32) (k % 32) labels (omega arith) in
      rw (sym (rw same at there)) (unusable (k / 32) (k % 32) group above place)

  pub no-group : None ≡ position (λ x. leb x low) floors → None ≡ position (is_usable low) labels
  no-group none =
      none_is (is_usable low) labels free_label
      (λ k within. unusable_at k within (none_at (λ x. leb x low) floors 0 (k / 32) none (omega (arith, are.long))))

  pub no-place : (group : ℕ) → Some group ≡ position (λ x. leb x low) floors → None ≡ position (is_usable low) (part group labels) → ⊥
  no-place group some none =
      let found = position-Some (λ x. leb x low) floors group 0 (sym some) in
      let any : list_any (is_usable low) (part group labels) ≡ true = sym ((are.each group found.0).usable low small) ∙ found.1 in
      let all : list_any (is_usable low) (part group labels) ≡ false = none_any (is_usable low) (part group labels) free_label (λ k within. none_at (is_usable low) (part group labels) free_label k none within) in
      cc

  pub a-place : (group place : ℕ) → Some group ≡ position (λ x. leb x low) floors → Some place ≡ position (is_usable low) (part group labels) → Some (32 * group + place) ≡ position (is_usable low) labels
  a-place group place some here =
      let found = position-Some (λ x. leb x low) floors group 0 (sym some) in
      let at = position-Some (is_usable low) (part group labels) place free_label (sym here) in
      let n = part-length group labels in
      let within : place < 32 = omega (arith, n, at.0) in
      some_is (is_usable low) labels free_label (32 * group + place) (omega (arith, n, at.0))
      (λ k before. ⊎_elim
      (λ (lt : k < 32 * group). unusable_at k (omega (arith, n, at.0)) (found.2 (k / 32) (omega arith)))
      (λ (le : 32 * group ≤ k).
      let same : 32 * group + (k - 32 * group) ≡ k = omega arith in
      let there = part-at group (k - 32 * group) labels (omega arith) in
      rw (sym (rw same at there)) (at.2 (k - 32 * group) (omega arith)))
      (cases_lt k (32 * group)))
      (rw (sym (part-at group place labels within)) at.1)

-- ---- a change

part-set_other : (group place : ℕ) (ls : List Label) (l : Label) → group ≢ place / 32 → part group (set ls place l) ≡ part group ls
part-set_other group place ls l other =
    ⊎_elim
    (λ (lt : place < 32 * group). ap (take 32) (drop-set-lt (32 * group) ls place l lt))
    (λ (le : 32 * group ≤ place).
    let same : 32 * group + (place - 32 * group) ≡ place = omega arith in
    let past : 32 ≤ place - 32 * group = omega arith in
    let behind = rw same at (drop-set-add (32 * group) ls (place - 32 * group) l) in
    ap (take 32) behind ∙ take-set-le 32 (drop (32 * group) ls) (place - 32 * group) l past)
    (cases_lt place (32 * group))

pub floors-set : (labels : List Label) (floors : List ℕ) (place least : ℕ) (l : Label) → AreFloors labels floors → IsFloorOf (part (place / 32) (set labels place l)) least → AreFloors (set labels place l) (set floors (place / 32) least)
floors-set labels floors place least l are is = record {
  long = length-set floors (place / 32) least ∙ are.long ∙ ap group_count (sym (length-set labels place l));
  each = each;
}
  where
    each : (group : ℕ) → group < length (set floors (place / 32) least) → IsFloorOf (part group (set labels place l)) (slice_index (set floors (place / 32) least) group)
    each group h =
        let inside : group < length floors = omega (arith, h, length-set floors (place / 32) least) in
        ⊎_elim
        (λ (e : group ≡ place / 32).
        let here : slice_index (set floors (place / 32) least) (place / 32) ≡ least = get_or-set_same floors (place / 32) least 0 (rw (← e) inside) in
        rw (e, here) is)
        (λ (ne : group ≢ place / 32).
        let there : slice_index (set floors (place / 32) least) group ≡ slice_index floors group = get_or-set_other floors (place / 32) group least 0 ne in
        rw (part-set_other group place labels l ne, there) (are.each group inside))
        (cases_eq group (place / 32))

pub floors-free : (n : ℕ) → AreFloors (replicate n free_label) (replicate (group_count n) 0)
floors-free n = record {
  long = length-replicate {A = ℕ} (group_count n) 0 ∙ ap group_count (sym (length-replicate n free_label));
  each = λ group h.
      let inside : group < group_count n = omega (arith, h, length-replicate {A = ℕ} (group_count n) 0) in
      let zero_is : slice_index (replicate (group_count n) 0) group ≡ 0 = get_or-replicate {A = ℕ} (group_count n) group 0 0 inside in
      let some : 0 < length (part group (replicate n free_label)) = omega (arith, part-length group (replicate n free_label), length-replicate n free_label) in
      let there = part-at group 0 (replicate n free_label) (omega arith) ∙ get_or-replicate n (32 * group + 0) free_label free_label (omega arith) in
      rw zero_is record {
        usable = λ low small.
            let t : leb 0 low ≡ true = grind (arith, nat_tests) in
            t ∙ sym (list_any_at (is_usable low) (part group (replicate n free_label)) 0 free_label some (rw there refl));
      };
}
