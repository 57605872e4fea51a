-- How often one block may still be reached, and be read.
use Rattle.std.proofs.Common.{◌≡◌, ◌≢◌, ⊎_elim, ℕ, ◌+◌, ◌<◌, ◌≤◌, suc, zero, true, false, not, cond, Bool, List, [], ◌∷◌, length, get_or, set, get_or-set_same, refl, sym, ap, ◌∙◌, subst, arith}
use Rattle.std.specs.Prelude.{nat_eq, ◌&&◌}
use Rattle.std.specs.List.{All}
use Rattle.std.proofs.lemmas.Bool.{cases_eq, cases_lt}
use Rattle.std.proofs.lemmas.List.Sums.{sum_by-cons, sum_by-set}
use Rattle.fo_check_labels.specs.declared.labels.Known.{Known}
use Rattle.fo_check_labels.specs.Known.{Ascend, IsAt, Marks, MarksNone, left_at}
use Rattle.fo_check_labels.specs.Watch.{hits}

eq_same : (a : ℕ) → nat_eq a a ≡ true
eq_same a = grind arith

eq_other : (a b : ℕ) → a ≢ b → nat_eq a b ≡ false
eq_other a b apart = grind (arith, apart)

pub hits_same : (a : ℕ) → hits a a ≡ 1
hits_same a = rw (eq_same a) refl

pub hits_other : (a b : ℕ) → a ≢ b → hits a b ≡ 0
hits_other a b apart = rw (eq_other a b apart) refl

pub hits_most : (a b : ℕ) → hits a b ≤ 1
hits_most a b = ⊎_elim (λ same. subst (λ (n : ℕ). hits a n ≤ 1) same (omega (arith, hits_same a))) (λ apart. omega (arith, hits_other a b apart)) (cases_eq a b)

-- what one block adds
abbrev part : ℕ → Known → ℕ
part w k = cond (not k.reached && nat_eq k.address w) 1 0

and_false : (b : Bool) → (b && false) ≡ false
and_false true = refl
and_false false = refl

part_other : (w : ℕ) (k : Known) → k.address ≢ w → part w k ≡ 0
part_other w k apart = rw (eq_other k.address w apart, and_false (not k.reached)) refl

part_most : (w : ℕ) (k : Known) → part w k ≤ 1
part_most w k = by (not k.reached && nat_eq k.address w)
  where
    by : (b : Bool) → ◌≤◌ (cond b 1 0) 1
    by true = omega arith
    by false = omega arith

left_more : (w : ℕ) (x : Known) (xs : List Known) → left_at w (x ∷ xs) ≡ part w x + left_at w xs
left_more w x xs = sum_by-cons (part w) x xs

pub left_none : (w : ℕ) (known : List Known) → All (λ k. k.address ≢ w) known → left_at w known ≡ 0
left_none w [] each = refl
left_none w (x ∷ xs) each =
    let here = part_other w x (each 0 x (omega arith)) in
    let rest = left_none w xs (λ i d lt. each (suc i) d (omega (arith, lt))) in
    omega (arith, left_more w x xs, here, rest)

pub left_one : (w : ℕ) (known : List Known) → Ascend known → left_at w known ≤ 1
left_one w [] up = omega arith
left_one w (x ∷ xs) up = ⊎_elim
    (λ (same : x.address ≡ w).
    let rest = left_none w xs (λ i d lt. let less = up 0 (suc i) d (omega arith) (omega (arith, lt)) in λ e. absurd (omega (arith, less, e, same))) in
    let most = part_most w x in omega (arith, left_more w x xs, most, rest))
    (λ (apart : x.address ≢ w).
    let here = part_other w x apart in
    let rest = left_one w xs (λ i j d less lt. up (suc i) (suc j) d (omega (arith, less)) (omega (arith, lt))) in
    omega (arith, left_more w x xs, here, rest))
    (cases_eq x.address w)

-- A mark takes from the block that is marked, and from no other.
pub left_marked : (w address : ℕ) (known known' : List Known) → Marks address known known' → left_at w known' + hits address w ≤ left_at w known
left_marked w address [] known' m = omega (arith, m.block.within)
left_marked w address (x ∷ xs) known' m =
    let known : List Known = x ∷ xs in
    let old : Known = get_or known m.at x in
    let new : Known = record old { reached = true } in
    let e = sum_by-set (part w) known m.at new x m.block.within in
    let is : known' ≡ set known m.at new = m.after x in
    let gone : ◌≡◌ {A = ℕ} (part w new) 0 = refl in
    let was : ◌≡◌ {A = ℕ} (part w old) (hits address w) = rw (m.before x, m.block.is x) refl in
    subst (λ (ks : List Known). left_at w ks + hits address w ≤ left_at w known) (sym is) (omega (arith, e, gone, was))

pub left_kept : (w address : ℕ) (known known' : List Known) → MarksNone address known known' → left_at w known' ≤ left_at w known
left_kept w address known known' m = subst (λ (ks : List Known). left_at w ks ≤ left_at w known) (sym m.same) (omega arith)
