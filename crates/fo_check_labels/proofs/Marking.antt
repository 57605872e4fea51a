-- The list of blocks that are not free: a look for an address, a block that is marked, one block more.
use Rattle.std.proofs.Common.{◌≡◌, ◌≢◌, ⊎_elim, ℕ, ◌+◌, ◌<◌, ◌≤◌, true, false, not, cond, ltb, List, [], ◌∷◌, ◌++◌, length, get_or, set, get_or-set_same, get_or-set_other, length-set, refl, sym, ap, ◌∙◌, subst, Result, Ok, Err, arith}
use Rattle.std.specs.List.{All, Any}
use Rattle.std.specs.List.Sorted.{IsNonDecreasingBy, IsPartitionPoint}
use Rattle.std.specs.Prelude.{OnOk, is_ok, is_err, if◌then◌else◌}
use Rattle.std.proofs.lemmas.Bool.{cases_eq, cases_lt, false≢true}
use Rattle.std.proofs.lemmas.List.Quantifiers.{all_pairs_push}
use Rattle.std.proofs.lemmas.List.Elements.{All-push}
use Rattle.std.proofs.lemmas.List.Filters.{length-filter_both}
use Rattle.std.proofs.lemmas.List.Sums.{sum_by-set, sum_by_push, length-filter}
use borrow.Author.Tests.{ltb-true, ltb-false}
use Rattle.fo_image.specs.declared.types.Label.{Label}
use Rattle.std.proofs.lemmas.List.{get_or_default, length-append}
use Rattle.fo_image.specs.Place.{first_data}
use Rattle.fo_check_labels.specs.declared.labels.Known.{Known}
use Rattle.fo_check_labels.specs.declared.labels.Labels.{Labels}
use Rattle.fo_check_labels.specs.Known.{Ascend, IsBelow, IsAt, IsKnown, IsFew, Marks, fresh, unreached, reached}

pub rising : (known : List Known) → Ascend known → IsNonDecreasingBy (λ k. k.address) known
rising known up i j d le lt = ⊎_elim (λ same. rw same (omega arith)) (λ apart. let less = up i j d (omega arith) lt in omega arith) (cases_eq i j)

-- A block that is marked was not reached before.
pub marks_new : (address : ℕ) (known known' : List Known) → Marks address known known' → known' ≡ known → ⊥
marks_new address [] known' m same = omega (arith, m.block.within)
marks_new address (x ∷ xs) known' m same =
    let marked : Known = record (get_or (x ∷ xs) m.at x) { reached = true } in
    let now : (get_or (x ∷ xs) m.at x).reached ≡ true = ap (λ (ks : List Known). (get_or ks m.at x).reached) (sym same ∙ m.after x) ∙ ap (λ (k : Known). k.reached) (get_or-set_same (x ∷ xs) m.at marked x m.block.within) in
    false≢true (sym (m.before x) ∙ now)

-- Where the place for an address has another address, or is the end, no block has it.
pub none_there : (known : List Known) (address at : ℕ) → Ascend known → IsPartitionPoint (λ k. ltb k.address address ≡ true) (λ k. ltb k.address address ≡ false) known at
    → (at < length known → (d : Known) → (get_or known at d).address ≢ address) → All (λ k. k.address ≢ address) known
none_there known address at up point apart k d lt same = ⊎_elim
    (λ before. let less = ltb-true _ _ (point.0 k d (omega arith) before) in omega arith)
    (λ from. ⊎_elim
    (λ here. apart (omega arith) d (subst (λ (n : ℕ). (get_or known n d).address ≡ address) here same))
    (λ other.
    let low = ltb-false _ _ (point.1 at d (omega arith) (omega arith)) in
    let less = up at k d (omega arith) lt in
    omega arith)
    (cases_eq k at))
    (cases_lt k at)

module _ (known : List Known) (at : ℕ) (k : Known) (within : at < length known) (same : (d : Known) → k.address ≡ (get_or known at d).address) where
  address-marked : (i : ℕ) (d : Known) → (get_or (set known at k) i d).address ≡ (get_or known i d).address
  address-marked i d = ⊎_elim (λ here. subst (λ (n : ℕ). (get_or (set known at k) n d).address ≡ (get_or known n d).address) (sym here) (rw get_or-set_same (same d))) (λ (apart : i ≢ at). rw get_or-set_other refl) (cases_eq i at)

  pub Ascend-marked : Ascend known → Ascend (set known at k)
  Ascend-marked up i j d less lt =
      let below = up i j d less (omega (arith, length-set known at k)) in
      rw (address-marked i d, address-marked j d) below

  pub unreached-marked : (d : Known) → (get_or known at d).reached ≡ false → k.reached ≡ true → unreached (set known at k) + 1 ≡ unreached known
  unreached-marked d isnt is =
      let e = sum_by-set (λ m. cond (not m.reached) 1 0) known at k d within in
      let one : ◌≡◌ {A = ℕ} (cond (not (get_or known at d).reached) 1 0) 1 = rw isnt refl in
      let none : ◌≡◌ {A = ℕ} (cond (not k.reached) 1 0) 0 = rw is refl in
      omega (arith, e, one, none)

-- one block more, which was not reached
module _ (known : List Known) (k : Known) (below : IsBelow k.address known) where
  pub Ascend-more : Ascend known → Ascend (known ++ k ∷ [])
  Ascend-more up = all_pairs_push (λ m n. m.address < n.address) known k up below.each

  pub unreached-more : k.reached ≡ false → unreached (known ++ k ∷ []) ≡ unreached known + 1
  unreached-more isnt =
      let one : ◌≡◌ {A = ℕ} (cond (not k.reached) 1 0) 1 = rw isnt refl in
      omega (arith, sum_by_push (λ m. cond (not m.reached) 1 0) known k, one)

-- No other block has the address of this one.
pub all_reached : (known : List Known) (address at : ℕ) → Ascend known → IsAt address known at → ((d : Known) → (get_or known at d).reached ≡ true) → All (λ k. k.address ≡ address → k.reached ≡ true) known
all_reached known address at up here is k d lt same = ⊎_elim
    (λ one. subst (λ (n : ℕ). (get_or known n d).reached ≡ true) (sym one) (is d))
    (λ apart. ⊎_elim
    (λ before. let less = up k at d before here.within in absurd (omega (arith, here.is d)))
    (λ from. let less = up at k d (omega arith) lt in absurd (omega (arith, here.is d)))
    (cases_lt k at))
    (cases_eq k at)

pub is_pushed : {A E X : Type 0} (r : Result A E) (xs ys zs : List X) → is_err r ≡ false → zs ≡ (if is_ok r then ys else xs) → zs ≡ ys
is_pushed (Ok x) xs ys zs ok is = is
is_pushed (Err x) xs ys zs ok is = absurd (false≢true (sym ok))

-- A block has one label.
pub only_label : (known : List Known) (address : ℕ) (l m : Label) → Ascend known → Any (IsKnown address l) known → Any (IsKnown address m) known → l ≡ m
only_label known address l m up a b = ⊎_elim
    (λ same. sym a.4.label_is ∙ ap (λ (k : Known). k.label) (sym a.3) ∙ ap (λ (n : ℕ). (get_or known n a.1).label) same ∙ ap (λ (k : Known). k.label) (get_or_default known b.0 a.1 b.1 b.2 ∙ b.3) ∙ b.4.label_is)
    (λ apart. ⊎_elim
    (λ before. let less = up a.0 b.0 b.1 before b.2 in absurd (omega (arith, at a a.1, at a b.1, at b b.1)))
    (λ from. let less = up b.0 a.0 a.1 (omega arith) a.2 in absurd (omega (arith, at a a.1, at b a.1)))
    (cases_lt a.0 b.0))
    (cases_eq a.0 b.0)
  where
    at : {n : Label} (c : Any (IsKnown address n) known) (d : Known) → (get_or known c.0 d).address ≡ address
    at c d = ap (λ (k : Known). k.address) (get_or_default known c.0 d c.1 c.2 ∙ c.3) ∙ c.4.address_is

-- ---- how many there are

pub few_upto : {blocks upto next : ℕ} (known : List Known) → upto ≤ next → IsFew blocks upto known → IsFew blocks next known
few_upto known le f = record { below = omega (arith, le, f.below); most = f.most; from = f.from }

pub few_more : {blocks : ℕ} {E : Type 0} (known new : List Known) (address : ℕ) (l : Label) (r : Result Unit E) → first_data blocks ≤ address → address < blocks → IsFew blocks address known
    → OnOk r (new ≡ known ++ fresh address l ∷ []) → OnOk r (IsFew blocks (address + 1) new)
few_more {blocks = blocks} known new address l (Ok x) from to f added =
    let long : length new ≡ length known + 1 = ap length added ∙ length-append known (fresh address l ∷ []) in
    record {
      below = omega (arith, long, from, to, f.below);
      most = omega (arith, long, from, to, f.below);
      from = subst (λ (ks : List Known). All (λ k. first_data blocks ≤ k.address) ks) (sym added) (All-push (λ k. first_data blocks ≤ k.address) known (fresh address l) f.from from);
    }
few_more known new address l (Err e) from to f added = tt

split : (known : List Known) → reached known + unreached known ≡ length known
split known = omega (arith, length-filter_both (λ k. k.reached) (λ k. not k.reached) (λ k. refl) known, length-filter (λ (k : Known). k.reached) known, length-filter (λ (k : Known). not k.reached) known)

-- Each block was reached, or may still be.
pub reached_left : (l : Labels) → reached l.known.items + l.left ≡ length l.known.items
reached_left l = omega (arith, split l.known.items, l.counted)
