-- Where the blocks of a source stand, and what follows for its leaves.
use Rattle.std.proofs.Common.{◌≡◌, ◌+◌, ◌-◌, ◌*◌, ◌/◌, ◌%◌, ◌^◌, ◌<◌, ◌≤◌, ℕ, zero, suc, Bool, true, false, cond, nat_lt, List, Some, None, refl, ap, ◌∙◌, subst, arith}
use Rattle.std.proofs.lemmas.Bool.{ltb-true}
use Rattle.std.proofs.Math.Nat.{pow-succ'}
use Rattle.fo_image.specs.declared.types.Score.{Score}
use Rattle.fo_image.specs.declared.types.Pointer.{Pointer}
use Rattle.fo_image.specs.declared.types.Pointer.TheVariants.{Nil, Local, Score as Held}
use Rattle.fo_image.specs.Format.{kind_code}
use Rattle.fo_tree_read.specs.of_crash.declared.slot.Slot.{Slot}
use Rattle.fo_tree_read.specs.of_crash.declared.place.Place.{Place}
use Rattle.fo_tree_read.specs.of_crash.Images.{target}
use Rattle.fo_tree_read.specs.of_crash.Places.{place, place_below, IsPlaced, OnePlace}
use Rattle.fo_tree_read.specs.of_ports.State.{State}
use Rattle.fo_tree_read.specs.declared.tree.Tree.{Tree}
use Rattle.fo_tree_read.specs.Tree.{kind_at, kind_down, below, block_at, address_of, held_of, Hangs}
use Rattle.fo_tree_read.proofs.Walk.{held_apart, is_down}
use Rattle.fo_tree_look.specs.declared.ways.Kept.{Kept}
use Rattle.fo_tree_look.specs.Source.{HasBlock, NoneHeld, AllHeld, address_here, held_here}
use Rattle.fo_tree_look.proofs.Held.{seen_leaf}

-- ---- which leaf was found

local_of : (p : Pointer) (at : ℕ) → address_of p ≡ Some at → p ≡ Local at
local_of Nil at e = absurd (let h = e in cc)
local_of (Local x) at e = cc
local_of (Held score) at e = absurd (let h = e in cc)

-- Leaf i is here: below the end, and within the room of the tree.
pub record IsHere (s : State) (t : Tree) (i at : ℕ) : Type 0 where
  pub inside : 8192 * i < t.size
  pub few : i < 409 ^ t.depth
  pub is : block_at s t t.depth i ≡ Local at

pub is_here : (s : State) (t : Tree) (i at : ℕ) → address_here s t i ≡ Some at → IsHere s t i at
is_here s t i at e =
    let parts = by (nat_lt (8192 * i) t.size) (nat_lt i (409 ^ t.depth)) (block_at s t t.depth i) e in
    record { inside = ltb-true (8192 * i) t.size parts.0; few = ltb-true i (409 ^ t.depth) parts.1; is = parts.2 }
  where
    by : (inside few : Bool) (p : Pointer) → cond inside (address_of (cond few p Nil)) None ≡ Some at → (inside ≡ true) × (few ≡ true) × (p ≡ Local at)
    by true true p e = (refl, refl, local_of p at e)
    by true false p e = absurd (let h = e in cc)
    by false few p e = absurd (let h = e in cc)

pub here_owned : {s : State} {t : Tree} {i at : ℕ} → IsHere s t i at → HasBlock s t at
here_owned {t = t} {i = i} here = record { down = t.depth; index = i; within = omega arith; is = here.is }

-- no leaf under a score
pub none_here : (s : State) (t : Tree) (kept : List Kept) → AllHeld s kept → s.tells → NoneHeld s t → (i : ℕ) → held_here s t kept i ≡ None
none_here s t kept held told none i = seen_leaf s t kept held told i ∙ by (nat_lt (8192 * i) t.size) (nat_lt i (409 ^ t.depth)) (block_at s t t.depth i) (none i)
  where
    by : (inside few : Bool) (p : Pointer) → ((score : Score) → p ≡ Held score → ⊥) → cond inside (held_of s (kind_at t.dir 0) (cond few p Nil)) None ≡ None
    by true true Nil none = refl
    by true true (Local x) none = refl
    by true true (Held score) none = absurd (none score refl)
    by true false p none = refl
    by false few p none = refl

-- ---- places

place_down : (dir : Bool) (tag index rank level i : ℕ) (s : Slot) → place_below (place (kind_at dir (suc level)) tag index rank) i s ≡ place (kind_at dir level) tag (409 * index + i) (rank - 1)
place_down true tag index rank level i s = refl
place_down false tag index rank level i s = refl

module _ (s : State) (t : Tree) (placed : IsPlaced s.stands s.now) where
  abbrev StandsDown : ℕ → ℕ → ℕ → Type 0
  StandsDown n k at = s.stands at (place (kind_down t n) t.tag k (t.rank + (t.depth - n)))

  down_one : (n k a at : ℕ) → suc n ≤ t.depth → StandsDown n (k / 409) a → target ((s.now a).slot (k % 409)) ≡ Local at → StandsDown (suc n) k at
  down_one n k a at within above e =
      let level : ℕ = t.depth - suc n in
      let is : t.depth - n ≡ suc level = omega (arith, within) in
      let from : s.stands a (place (kind_at t.dir (suc level)) t.tag (k / 409) (t.rank + (t.depth - n))) =
      subst (λ l. s.stands a (place (kind_at t.dir l) t.tag (k / 409) (t.rank + (t.depth - n)))) is above in
      let to = placed.each a (k % 409) at _ from e in
      let rank : t.rank + (t.depth - n) - 1 ≡ t.rank + level = omega (arith, is) in
      let index : 409 * (k / 409) + k % 409 ≡ k = omega arith in
      let there = subst (λ (p : Place). s.stands at p) (place_down t.dir t.tag (k / 409) (t.rank + (t.depth - n)) level (k % 409) ((s.now a).slot (k % 409))) to in
      subst (λ x. s.stands at (place (kind_at t.dir level) t.tag x (t.rank + level))) index (subst (λ r. s.stands at (place (kind_at t.dir level) t.tag (409 * (k / 409) + k % 409) r)) rank there)

  nil_local : (at : ℕ) → Nil ≡ Local at → ⊥
  nil_local at e = cc

  down_from : (n k at : ℕ) (p : Pointer) → suc n ≤ t.depth → ((a : ℕ) → p ≡ Local a → StandsDown n (k / 409) a) → below s (kind_down t n) p (k % 409) ≡ Local at → StandsDown (suc n) k at
  down_from n k at Nil within above e = absurd (nil_local at e)
  down_from n k at (Local a) within above e = down_one n k a at within (above a refl) e
  down_from n k at (Held score) within above e = absurd (held_apart (s.held score (kind_code (kind_down t n))) (k % 409) at e)

  -- block k of those n steps below the top stands at the place of that index
  pub block_place : Hangs s t → s.tells → (n k at : ℕ) → n ≤ t.depth → k < 409 ^ n → block_at s t n k ≡ Local at → StandsDown n k at
  block_place hangs told zero k at within few e =
      let all : t.depth ≡ t.depth - zero = omega arith in
      let first : 0 ≡ k = omega (arith, few) in
      subst (λ x. s.stands at (place (kind_at t.dir (t.depth - zero)) t.tag x (t.rank + (t.depth - zero)))) first (subst (λ l. s.stands at (place (kind_at t.dir l) t.tag 0 (t.rank + l))) all (hangs.told told at e).0)
  block_place hangs told (suc n) k at within few e =
      let more : 409 ^ suc n ≡ 409 * 409 ^ n = pow-succ' 409 n in
      down_from n k at (block_at s t n (k / 409)) within (λ a f. block_place hangs told n (k / 409) a (omega (arith, within)) (omega (arith, few, more)) f) e

  pub leaf_there : Hangs s t → s.tells → (i at : ℕ) → IsHere s t i at → s.stands at (place (kind_at t.dir 0) t.tag i t.rank)
  leaf_there hangs told i at here =
      let none : t.depth - t.depth ≡ 0 = omega arith in
      let rank : t.rank + 0 ≡ t.rank = omega arith in
      subst (λ r. s.stands at (place (kind_at t.dir 0) t.tag i r)) rank (subst (λ l. s.stands at (place (kind_at t.dir l) t.tag i (t.rank + l))) none (block_place hangs told t.depth i at (omega arith) here.few here.is))

  module _ (one : OnePlace s.stands) (hangs : Hangs s t) (told : s.tells) where
    -- two leaves are two blocks
    pub leaves_apart : (i j at : ℕ) → address_here s t i ≡ Some at → address_here s t j ≡ Some at → i ≡ j
    leaves_apart i j at e f = ap (λ (p : Place). p.index) (one.each at (place (kind_at t.dir 0) t.tag i t.rank) (place (kind_at t.dir 0) t.tag j t.rank) (leaf_there hangs told i at (is_here s t i at e)) (leaf_there hangs told j at (is_here s t j at f)))

    pub leaf_at_place : (i at : ℕ) (p : Place) → address_here s t i ≡ Some at → s.stands at p → (p.kind ≡ kind_at t.dir 0) × (p.tag ≡ t.tag) × (p.rank ≡ t.rank)
    leaf_at_place i at p e stands =
        let same : p ≡ place (kind_at t.dir 0) t.tag i t.rank = one.each at p (place (kind_at t.dir 0) t.tag i t.rank) stands (leaf_there hangs told i at (is_here s t i at e)) in
        (ap (λ (q : Place). q.kind) same, ap (λ (q : Place). q.tag) same, ap (λ (q : Place). q.rank) same)

    pub block_tag : (at : ℕ) (p : Place) → HasBlock s t at → s.stands at p → p.tag ≡ t.tag
    block_tag at p has stands =
        let there = is_down s t placed hangs told has.down has.index at has.within has.is in
        ap (λ (q : Place). q.tag) (one.each at p (place (kind_down t has.down) t.tag there.index (t.rank + (t.depth - has.down))) stands there.stands)
