-- A step in the work that is left.
use Rattle.std.proofs.Common.{◌≡◌, ℕ, ◌+◌, ◌-◌, ◌*◌, ◌<◌, ◌≤◌, Bool, true, false, Some, None, List, [], ◌∷◌, ◌++◌, length, drop, slice_get, refl, ap, ◌∙◌, ⊎_elim, zero, suc, arith, add-mul, one-mul}
use Rattle.std.proofs.lemmas.Bool.{cases_lt}
use Rattle.std.proofs.lemmas.Nat.{mul-le}
use Rattle.fo_unlink.specs.declared.removal.Removal.{Removal}
use Rattle.fo_unlink.specs.declared.way.Frame.{Frame}
use Rattle.fo_unlink.specs.declared.removal.Step.{Step}
use Rattle.fo_unlink.specs.declared.removal.Step.TheVariants.{Closes, Reads}
use Rattle.fo_unlink.specs.Pending.{Pending, reads_left, reads_of, remaining, start_level, closed, entered, first_removal}
use Rattle.fo_unlink.specs.Steps.{unasked}
use Rattle.fo_unlink.specs.Work.{block_work, work_of, slots_work, frames_work, first_work, removals_work, work_left, work, Lowers}

-- ---- closing, and going down

none_begun : (rs : List Removal) → work_left rs false [] ≡ removals_work rs
none_begun [] = refl
none_begun (r ∷ rs) = refl

-- after a block was closed, what is left is the way and what comes after the first removal
after_close : (r : Removal) (rs : List Removal) (way : List Frame) → work_left (remaining (r ∷ rs) way) false way ≡ frames_work way + removals_work rs
after_close r rs [] = none_begun rs ∙ omega arith
after_close r rs (f ∷ fs) = refl

after_enter : (r : Removal) (rs : List Removal) (at level : ℕ) (way : List Frame) → 0 < level → work_left (r ∷ rs) true (record { at = at; level = level; done = 0 } ∷ way) < block_work level + (frames_work way + removals_work rs)
after_enter r rs at zero way some = absurd (omega arith)
after_enter r rs at (suc n) way some =
    let same : suc n - 1 ≡ n = omega arith in
    rw same (omega arith)

-- one slot less
fewer : (from slot below : ℕ) → from ≤ slot → slot < 409 → (409 - (slot + 1)) * (below + 1) + (below + 1) ≤ (409 - from) * (below + 1)
fewer from slot below le lt =
    let more : (409 - (slot + 1)) + 1 ≤ 409 - from = omega (arith, le, lt) in
    omega (arith, mul-le ((409 - (slot + 1)) + 1) (below + 1) (409 - from) (below + 1) more (omega arith), add-mul (409 - (slot + 1)) 1 (below + 1), one-mul (below + 1))

-- A step goes on with a block of a level, and what is left after it is less than what is left with it.
goes : (old mid new : Pending) (r : Removal) (rs : List Removal) (at level : ℕ) (result : Step) → mid.removals ≡ r ∷ rs → mid.asked ≡ false → level < reads_left old → block_work level + (frames_work mid.way + removals_work rs) ≤ work old → (level ≡ 0 → (result ≡ Closes at) × (new ≡ closed mid)) → (0 < level → (result ≡ Reads at) × (new ≡ entered mid at level)) → Lowers old new result
goes old mid new r rs at level result all unasked nearer enough leaf inner = ⊎_elim
    (λ (h : level < 1).
    let none : level ≡ 0 = omega arith in
    let l = leaf none in
    let is : work (closed mid) ≡ frames_work mid.way + removals_work rs = rw (all, unasked) (after_close r rs mid.way) in
    let one : block_work level ≡ 1 = ap block_work none in
    rw (l.0, l.1) (omega (arith, is, one, enough)))
    (λ (h : 1 ≤ level).
    let i = inner h in
    let is : work (entered mid at level) < block_work level + (frames_work mid.way + removals_work rs) = rw all (after_enter r rs at level mid.way h) in
    rw (i.0, i.1) (omega (arith, is, enough), nearer))
    (cases_lt level 1)

-- ---- one lemma for each way that a step goes

head_is : {X : Type 0} (xs : List X) (x : X) → Some x ≡ slice_get xs 0 → xs ≡ x ∷ drop 1 xs
head_is [] x is = cc
head_is (y ∷ ys) x is = cc

none_is : {X : Type 0} (xs : List X) → None ≡ slice_get xs 0 → xs ≡ []
none_is [] is = refl
none_is (y ∷ ys) is = cc

reads_none : (b : Bool) → reads_of b [] ≡ 5
reads_none true = refl
reads_none false = refl

pub begins : (old new : Pending) (r : Removal) (level : ℕ) (result : Step) → Some r ≡ first_removal old → None ≡ slice_get old.way 0 → level ≡ start_level r → level ≤ 4 → (level ≡ 0 → (result ≡ Closes r.at) × (new ≡ closed (unasked old))) → (0 < level → (result ≡ Reads r.at) × (new ≡ entered (unasked old) r.at level)) → Lowers old new result
begins old new r level result first none start small leaf inner =
    let rs = drop 1 old.removals in
    let all = head_is old.removals r first in
    let empty = none_is old.way none in
    let reads : reads_left old ≡ 5 = rw empty (reads_none old.asked) in
    let has : work old ≡ block_work level + removals_work rs = rw (all, empty, start) refl in
    let zero_way : frames_work old.way ≡ 0 = rw empty refl in
    goes old (unasked old) new r rs r.at level result all refl (omega (arith, reads, small)) (omega (arith, has, zero_way)) leaf inner

pub reads-again : (old : Pending) (r : Removal) (f : Frame) → Some r ≡ first_removal old → Some f ≡ slice_get old.way 0 → old.asked ≡ false → f.level ≤ 4 → Lowers old (record old { asked = true }) (Reads f.at)
reads-again old r f first top unasked small =
    let all = head_is old.removals r first in
    let way = head_is old.way f top in
    rw (all, way, unasked) (omega arith, omega arith)

pub goes-down : (old mid new : Pending) (r : Removal) (f : Frame) (slot at : ℕ) (result : Step) → Some r ≡ first_removal old → Some f ≡ slice_get old.way 0 → old.asked ≡ true → 1 ≤ f.level → f.done ≤ slot → slot < 409 → mid ≡ record old { way = record f { done = slot + 1 } ∷ drop 1 old.way; asked = false } → (f.level - 1 ≡ 0 → (result ≡ Closes at) × (new ≡ closed mid)) → (0 < f.level - 1 → (result ≡ Reads at) × (new ≡ entered mid at (f.level - 1))) → Lowers old new result
goes-down old mid new r f slot at result first top asked some after within middle leaf inner =
    let rs = drop 1 old.removals in
    let fs = drop 1 old.way in
    let all = head_is old.removals r first in
    let way = head_is old.way f top in
    let reads : reads_left old ≡ f.level = rw (way, asked) refl in
    let has : work old ≡ slots_work f + 1 + frames_work fs + removals_work rs = rw (all, way, asked) refl in
    let then : frames_work mid.way ≡ (409 - (slot + 1)) * (block_work (f.level - 1) + 1) + 2 + frames_work fs = ap (λ (q : Pending). frames_work q.way) middle in
    let less = fewer f.done slot (block_work (f.level - 1)) after within in
    goes old mid new r rs at (f.level - 1) result (ap (λ (q : Pending). q.removals) middle ∙ all) (ap (λ (q : Pending). q.asked) middle) (omega (arith, reads, some)) (omega (arith, has, then, less)) leaf inner

pub leaves : (old mid new : Pending) (r : Removal) (f : Frame) (result : Step) → Some r ≡ first_removal old → Some f ≡ slice_get old.way 0 → old.asked ≡ true → mid ≡ record old { way = drop 1 old.way; asked = false } → result ≡ Closes f.at → new ≡ closed mid → Lowers old new result
leaves old mid new r f result first top asked middle closes is =
    let rs = drop 1 old.removals in
    let fs = drop 1 old.way in
    let all = head_is old.removals r first in
    let way = head_is old.way f top in
    let has : work old ≡ slots_work f + 1 + frames_work fs + removals_work rs = rw (all, way, asked) refl in
    let removals : mid.removals ≡ r ∷ rs = ap (λ (q : Pending). q.removals) middle ∙ all in
    let unasked : mid.asked ≡ false = ap (λ (q : Pending). q.asked) middle in
    let rest : frames_work mid.way ≡ frames_work fs = ap (λ (q : Pending). frames_work q.way) middle in
    let left : work (closed mid) ≡ frames_work mid.way + removals_work rs = rw (removals, unasked) (after_close r rs mid.way) in
    rw (closes, is) (omega (arith, has, left, rest))

-- ---- a push

removals_more : (rs : List Removal) (r : Removal) → removals_work (rs ++ r ∷ []) ≡ removals_work rs + work_of r
removals_more [] r = omega arith
removals_more (x ∷ xs) r = omega (arith, removals_more xs r)

pub pushed : (rs : List Removal) (asked : Bool) (way : List Frame) (r : Removal) → (0 < length way → 0 < length rs) → work_left (rs ++ r ∷ []) asked way ≡ work_left rs asked way + work_of r
pushed [] asked [] r begun = omega arith
pushed [] asked (f ∷ fs) r begun = let h : 0 < 0 = begun (omega arith) in absurd (omega (arith, h))
pushed (x ∷ xs) asked way r begun = omega (arith, removals_more xs r)

-- ---- the first removal is dropped

some_work : (level : ℕ) → 0 < block_work level
some_work zero = omega arith
some_work (suc level) = omega arith

some_left : (r : Removal) (asked : Bool) (way : List Frame) → 0 < first_work r asked way
some_left r asked [] = some_work (start_level r)
some_left r true (f ∷ fs) = omega arith
some_left r false (f ∷ fs) = omega arith

dropped_less : (removals : List Removal) (asked : Bool) (way : List Frame) → 0 < length removals → work_left (drop 1 removals) false [] < work_left removals asked way
dropped_less [] asked way some = absurd (omega (arith, some))
dropped_less (r ∷ rs) asked way some =
    let is = none_begun rs in
    let left = some_left r asked way in
    omega (arith, is, left)

pub dropped_work : (removals rest : List Removal) (asked : Bool) (way begun : List Frame) → rest ≡ drop 1 removals → begun ≡ [] → 0 < length removals → work_left rest false begun < work_left removals asked way
dropped_work removals rest asked way begun is none some = rw (is, none) (dropped_less removals asked way some)
