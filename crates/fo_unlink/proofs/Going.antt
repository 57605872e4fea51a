-- A step in what is left.
use Rattle.std.proofs.Common.{◌≡◌, ◌≢◌, ℕ, ◌+◌, ◌-◌, ◌<◌, ◌≤◌, ◌↔◌, Bool, true, false, cond, Some, None, List, [], ◌∷◌, ◌++◌, length, map, drop, slice_get, refl, sym, ap, ◌∙◌, ⊎_elim, zero, suc, arith, append_assoc}
use Rattle.std.specs.List.{flat_map, Contains, All}
use Rattle.std.proofs.lemmas.List.Elements.{Contains-append_left, Contains-append_right}
use Rattle.std.proofs.lemmas.List.{length-map}
use Rattle.std.proofs.Math.ListN.{get_or-map}
use Rattle.std.proofs.lemmas.Bool.{cases_lt}
use Rattle.fo_image.specs.declared.types.Kind.{Kind}
use Rattle.fo_image.specs.declared.types.Kind.TheVariants.{Data, Dir, Root}
use Rattle.fo_image.specs.Format.{KindHolds}
use Rattle.fo_unlink.specs.declared.removal.Removal.{Removal}
use Rattle.fo_unlink.specs.declared.way.Frame.{Frame}
use Rattle.fo_unlink.specs.declared.removal.Step.{Step}
use Rattle.fo_unlink.specs.declared.removal.Step.TheVariants.{Closes, Reads, Waits, Empty}
use Rattle.fo_unlink.specs.Closing.{Tree, targets, level_of, blocks_under, blocks_of}
use Rattle.fo_unlink.specs.Pending.{Pending, frame_left, first_left, at_epoch, closes_of, left_of, left, reads_left, remaining, start_level, closed, entered, IsContent, IsRemoval, first_removal, reads_of}
use Rattle.fo_unlink.specs.Kept.{HasLevels}
use Rattle.fo_unlink.specs.Slots.{IsNextTarget}
use Rattle.fo_unlink.specs.Steps.{Answers, AsksFor, unasked}

-- what is left where a block of this level comes next, and then a way of pointer blocks
abbrev pub before : Tree → Removal → List Removal → ℕ → ℕ → List Frame → List (ℕ × ℕ)
before tree r rs level at way = at_epoch r.epoch (blocks_under tree level at ++ flat_map (frame_left tree) way) ++ flat_map (closes_of tree) rs

-- a removal that has begun is not over
remaining-begun : (rs : List Removal) (way : List Frame) → 0 < length way → rs ≡ remaining rs way
remaining-begun rs [] some = absurd (omega arith)
remaining-begun rs (f ∷ fs) some = refl

pub closed-begun : (q : Pending) → 0 < length q.way → q ≡ closed q
closed-begun q some = ap (λ (rs : List Removal). record q { removals = rs }) (remaining-begun q.removals q.way some)

-- ---- before

append_none : {X : Type 0} (xs : List X) → xs ++ [] ≡ xs
append_none [] = refl
append_none (x ∷ xs) = ap (λ ys. x ∷ ys) (append_none xs)

blocks_start : (tree : Tree) (r : Removal) → blocks_of tree r ≡ blocks_under tree (start_level r) r.at
blocks_start tree r =
    elim r.whole as (λ b. cond b (blocks_under tree (level_of r.kind) r.at) (r.at ∷ []) ≡ blocks_under tree (cond b (level_of r.kind) 0) r.at) [ true ↦ refl | false ↦ refl ]

pub before-begin : (tree : Tree) (r : Removal) (rs : List Removal) → left_of tree (r ∷ rs) [] ≡ before tree r rs (start_level r) r.at []
before-begin tree r rs = rw (append_none (blocks_under tree (start_level r) r.at), blocks_start tree r) refl

pub before-child : (tree : Tree) (r : Removal) (rs : List Removal) (f : Frame) (fs : List Frame) (at done : ℕ) → targets (drop f.done (tree f.at)) ≡ at ∷ targets (drop done (tree f.at)) → left_of tree (r ∷ rs) (f ∷ fs) ≡ before tree r rs (f.level - 1) at (record f { done = done } ∷ fs)
before-child tree r rs f fs at done next = rw next (simp append_assoc)

pub before-leave : (tree : Tree) (r : Removal) (rs : List Removal) (f : Frame) (fs : List Frame) → targets (drop f.done (tree f.at)) ≡ [] → left_of tree (r ∷ rs) (f ∷ fs) ≡ before tree r rs 0 f.at fs
before-leave tree r rs f fs none = rw none refl

-- ---- after

left-none : (tree : Tree) (rs : List Removal) → left_of tree rs [] ≡ flat_map (closes_of tree) rs
left-none tree [] = refl
left-none tree (r ∷ rs) = refl

pub after-close : (tree : Tree) (r : Removal) (rs : List Removal) (at : ℕ) (way : List Frame) → before tree r rs 0 at way ≡ (at, r.epoch) ∷ left_of tree (remaining (r ∷ rs) way) way
after-close tree r rs at [] = ap (λ xs. (at, r.epoch) ∷ xs) (sym (left-none tree rs))
after-close tree r rs at (f ∷ fs) = refl

pub after-enter : (tree : Tree) (r : Removal) (rs : List Removal) (level at : ℕ) (way : List Frame) → 0 < level → before tree r rs level at way ≡ left_of tree (r ∷ rs) (record { at = at; level = level; done = 0 } ∷ way)
after-enter tree r rs zero at way some = absurd (omega arith)
after-enter tree r rs (suc n) at way some =
    let same : suc n - 1 ≡ n = omega arith in
    rw same refl

Contains-map : {X Y : Type 0} (f : X → Y) (xs : List X) (x : X) → Contains xs x → Contains (map f xs) (f x)
Contains-map f xs x c = (c.0, omega (arith, length-map xs f, c.1), get_or-map f xs c.0 x ∙ ap f c.2)

pub covered : (tree : Tree) (r : Removal) (rs : List Removal) (f : Frame) (fs : List Frame) → Contains (left_of tree (r ∷ rs) (f ∷ fs)) (f.at, r.epoch)
covered tree r rs f fs =
    let own = Contains-append_right (flat_map (blocks_under tree (f.level - 1)) (targets (drop f.done (tree f.at)))) (f.at ∷ []) f.at (0, omega arith, refl) in
    let here = Contains-append_left (frame_left tree f) (flat_map (frame_left tree) fs) f.at own in
    let told = Contains-map (λ (b : ℕ). (b, r.epoch)) (frame_left tree f ++ flat_map (frame_left tree) fs) f.at here in
    Contains-append_left (at_epoch r.epoch (frame_left tree f ++ flat_map (frame_left tree) fs)) (flat_map (closes_of tree) rs) (f.at, r.epoch) told

-- ---- the answer

pub goes : (settled : Bool) (old mid new : Pending) (block : List ℕ) (r : Removal) (rs : List Removal) (at level : ℕ) (result : Step) → old.removals ≡ r ∷ rs → (r.whole ≡ false → at ≡ r.at) → settled ≡ true → mid.removals ≡ old.removals → mid.room ≡ old.room → mid.asked ≡ false → level < reads_left old → ((tree : Tree) → IsContent tree old block → left tree old ≡ before tree r rs level at mid.way) → (level ≡ 0 → (result ≡ Closes at) × (new ≡ closed mid)) → (0 < level → (result ≡ Reads at) × (new ≡ entered mid at level)) → Answers settled old block new result
goes settled old mid new block r rs at level result removals alone is same room unasked nearer left leaf inner =
    let first : first_removal old ≡ Some r = rw removals refl in
    let all : mid.removals ≡ r ∷ rs = same ∙ removals in
    ⊎_elim
    (λ (h : level < 1).
    let none : level ≡ 0 = omega arith in
    let l = leaf none in
    rw (l.0, l.1) record {
      first = r;
      goes_on = record { first = first; settled_is = is; room = room };
      removals = ap (λ xs. remaining xs mid.way) same;
      unasked = unasked;
      alone = alone;
      next = λ tree content. rw all (left tree content ∙ ap (λ n. before tree r rs n at mid.way) none ∙ after-close tree r rs at mid.way);
    })
    (λ (h : 1 ≤ level).
    let i = inner h in
    rw (i.0, i.1) record {
      first = r;
      goes_on = record { first = first; settled_is = is; room = room };
      removals = same;
      asked = refl;
      nearer = nearer;
      same = λ tree content. rw all (sym (left tree content ∙ after-enter tree r rs level at mid.way h));
      covered = λ tree. rw all (covered tree r rs (record { at = at; level = level; done = 0 }) mid.way);
    })
    (cases_lt level 1)

-- ---- one lemma for each way that a step goes

head_is : {X : Type 0} (xs : List X) (x : X) → Some x ≡ slice_get xs 0 → xs ≡ x ∷ drop 1 xs
head_is [] x is = cc
head_is (y ∷ ys) x is = cc

none_is : {X : Type 0} (xs : List X) → None ≡ slice_get xs 0 → xs ≡ []
none_is [] is = refl
none_is (y ∷ ys) is = cc

-- what the way and the kinds say of levels
pub levels-first : (way : List Frame) (f : Frame) → HasLevels way → Some f ≡ slice_get way 0 → (1 ≤ f.level) × (f.level ≤ 4)
levels-first [] f levels is = absurd (cc)
levels-first (g ∷ gs) f levels is =
    let same : f ≡ g = cc in
    rw same (levels.0, omega (arith, levels.1))

reads_none : (b : Bool) → reads_of b [] ≡ 5
reads_none true = refl
reads_none false = refl

whole_alone : (b : Bool) → b ≡ true → b ≡ false → ⊥
whole_alone true p e = cc
whole_alone false p e = cc

-- a removal that begins above the leaves takes what hangs below its block
pub begins_whole : (r : Removal) → 0 < start_level r → r.whole ≡ true
begins_whole r lt = by r.whole refl
  where
    by : (b : Bool) → r.whole ≡ b → r.whole ≡ true
    by true e = e
    by false e = absurd (let z : start_level r ≡ 0 = ap (λ b. cond {A = ℕ} b (level_of r.kind) 0) e in omega (arith, lt, z))

-- some block is on the way
pub way_some : (way : List Frame) (f : Frame) → Some f ≡ slice_get way 0 → 0 < length way
way_some [] f is = absurd (cc)
way_some (g ∷ gs) f is = omega arith

pub begins : (settled : Bool) (old new : Pending) (block : List ℕ) (r : Removal) (level : ℕ) (result : Step) → Some r ≡ first_removal old → settled ≡ true → None ≡ slice_get old.way 0 → level ≡ start_level r → level ≤ 4 → (level ≡ 0 → (result ≡ Closes r.at) × (new ≡ closed (unasked old))) → (0 < level → (result ≡ Reads r.at) × (new ≡ entered (unasked old) r.at level)) → Answers settled old block new result
begins settled old new block r level result first is none start small leaf inner =
    let rs = drop 1 old.removals in
    let all = head_is old.removals r first in
    let empty = none_is old.way none in
    let reads : reads_left old ≡ 5 = rw empty (reads_none old.asked) in
    goes settled old (unasked old) new block r rs r.at level result all (λ e. refl) is refl refl refl (omega arith)
    (λ tree content. rw (all, empty, start) (before-begin tree r rs))
    leaf inner

pub reads-again : (settled : Bool) (old : Pending) (block : List ℕ) (r : Removal) (f : Frame) → Some r ≡ first_removal old → settled ≡ true → Some f ≡ slice_get old.way 0 → old.asked ≡ false → f.level ≤ 4 → AsksFor settled old block (record old { asked = true }) f.at
reads-again settled old block r f first is top unasked small =
    let rs = drop 1 old.removals in
    let fs = drop 1 old.way in
    let all = head_is old.removals r first in
    let way = head_is old.way f top in
    record {
      first = r;
      goes_on = record { first = sym first; settled_is = is; room = refl };
      removals = refl;
      asked = rw way refl;
      nearer = rw (way, unasked) (omega arith);
      same = λ tree content. refl;
      covered = λ tree. rw (all, way) (covered tree r rs f fs);
    }

pub goes-down : (settled : Bool) (old mid new : Pending) (block : List ℕ) (r : Removal) (f : Frame) (slot at : ℕ) (result : Step) → Some r ≡ first_removal old → r.whole ≡ true → settled ≡ true → Some f ≡ slice_get old.way 0 → old.asked ≡ true → 1 ≤ f.level → IsNextTarget block f.done (Some (slot, at)) → mid ≡ record old { way = record f { done = slot + 1 } ∷ drop 1 old.way; asked = false } → (f.level - 1 ≡ 0 → (result ≡ Closes at) × (new ≡ closed mid)) → (0 < f.level - 1 → (result ≡ Reads at) × (new ≡ entered mid at (f.level - 1))) → Answers settled old block new result
goes-down settled old mid new block r f slot at result first whole is top asked some next middle leaf inner =
    let rs = drop 1 old.removals in
    let fs = drop 1 old.way in
    let all = head_is old.removals r first in
    let way = head_is old.way f top in
    let reads : reads_left old ≡ f.level = rw (way, asked) refl in
    goes settled old mid new block r rs at (f.level - 1) result all (λ e. absurd (whole_alone r.whole whole e)) is (ap (λ (q : Pending). q.removals) middle) (ap (λ (q : Pending). q.room) middle) (ap (λ (q : Pending). q.asked) middle) (omega arith)
    (λ tree content.
    let holds = content.content f.at (rw (way, asked) refl) in
    let then = ap (λ (q : Pending). q.way) middle in
    rw (all, way, then) (before-child tree r rs f fs at (slot + 1) (next.next (tree f.at) holds)))
    leaf inner

kind-le : (k : Kind) → KindHolds k → level_of k ≤ 4
kind-le (Data level) small = small
kind-le (Dir level) small = small
kind-le Root small = omega arith

start-le : (b : Bool) (n : ℕ) → n ≤ 4 → cond {A = ℕ} b n 0 ≤ 4
start-le true n small = small
start-le false n small = omega arith

pub start_level-le : (removals : List Removal) (r : Removal) → All IsRemoval removals → Some r ≡ slice_get removals 0 → start_level r ≤ 4
start_level-le [] r kinds is = absurd (cc)
start_level-le (x ∷ xs) r kinds is =
    let same : r ≡ x = cc in
    let removal : IsRemoval x = kinds 0 x (omega arith) in
    rw same (start-le x.whole (level_of x.kind) (kind-le x.kind removal.kind))

-- ---- when nothing is closed or asked for

some_first : (old : Pending) (r : Removal) → old.removals ≡ [] → first_removal old ≡ Some r → ⊥
some_first old r none first =
    let e : None ≡ Some r = rw none at first in
    cc

true_not_false : (b : Bool) → b ≡ true → b ≡ false → ⊥
true_not_false b p q = cc

pub empty-exactly : (settled : Bool) (old new : Pending) (block : List ℕ) (result : Step) → Answers settled old block new result → (result ≡ Empty) ↔ (old.removals ≡ [])
empty-exactly settled old new block (Closes b) h = (λ e. absurd (cc), λ e. absurd (some_first old h.first e h.goes_on.first))
empty-exactly settled old new block (Reads b) h = (λ e. absurd (cc), λ e. absurd (some_first old h.first e h.goes_on.first))
empty-exactly settled old new block Waits h = (λ e. absurd (cc), λ e. absurd (h.0 e))
empty-exactly settled old new block Empty h = (λ _. h.0, λ _. refl)

pub waits-exactly : (settled : Bool) (old new : Pending) (block : List ℕ) (result : Step) → Answers settled old block new result → (result ≡ Waits) ↔ ((old.removals ≢ []) × (settled ≡ false))
waits-exactly settled old new block (Closes b) h = (λ e. absurd (cc), λ w. absurd (true_not_false settled h.goes_on.settled_is w.1))
waits-exactly settled old new block (Reads b) h = (λ e. absurd (cc), λ w. absurd (true_not_false settled h.goes_on.settled_is w.1))
waits-exactly settled old new block Waits h = (λ _. (h.0, h.1), λ _. refl)
waits-exactly settled old new block Empty h = (λ e. absurd (cc), λ w. absurd (w.0 h.0))

-- the first removal is dropped
dropped_next : (tree : Tree) (removals : List Removal) (way : List Frame) (r : Removal) → slice_get removals 0 ≡ Some r → left_of tree removals way ≡ at_epoch r.epoch (first_left tree r way) ++ left_of tree (drop 1 removals) []
dropped_next tree [] way r is = absurd (none_some is)
  where
    none_some : None ≡ Some r → ⊥
    none_some e = cc
dropped_next tree (x ∷ xs) way r is =
    let same : x ≡ r = some_same is in
    ap (λ (es : List (ℕ × ℕ)). at_epoch x.epoch (first_left tree x way) ++ es) (sym (left-none tree xs))
    ∙ ap (λ (z : Removal). at_epoch z.epoch (first_left tree z way) ++ left_of tree xs []) same
  where
    some_same : Some x ≡ Some r → x ≡ r
    some_same e = cc

pub dropped-left : (tree : Tree) (removals rest : List Removal) (way begun : List Frame) (r : Removal) → rest ≡ drop 1 removals → begun ≡ [] → slice_get removals 0 ≡ Some r → left_of tree removals way ≡ at_epoch r.epoch (first_left tree r way) ++ left_of tree rest begun
dropped-left tree removals rest way begun r is none first = rw (is, none) (dropped_next tree removals way r first)
