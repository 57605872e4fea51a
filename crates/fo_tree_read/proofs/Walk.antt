-- The way from the top of a source down to one of its blocks.
use Rattle.std.proofs.Common.{◌≡◌, ◌⊎◌, ◌+◌, ◌-◌, ◌*◌, ◌/◌, ◌%◌, ◌<◌, ◌≤◌, take, drop, ℕ, zero, suc, Bool, true, false, cond, List, Option, Some, None, inl, inr, ⊎_elim, refl, sym, ap, ◌∙◌, subst, arith}
use Rattle.std.proofs.lemmas.Bool.{cases_eq}
use Rattle.fo_looks.specs.of_image.declared.types.Kind.{Kind}
use Rattle.fo_looks.specs.of_image.declared.types.Score.{Score}
use Rattle.fo_looks.specs.of_image.declared.types.Label.{Label}
use Rattle.fo_looks.specs.of_image.declared.types.Pointer.{Pointer}
use Rattle.fo_looks.specs.of_image.declared.types.Pointer.TheVariants.{Nil, Local, Score as Held}
use Rattle.fo_looks.specs.of_image.Format.{kind_code}
use Rattle.fo_looks.specs.of_crash.declared.slot.Slot.{Slot}
use Rattle.fo_looks.specs.of_crash.declared.place.Place.{Place}
use Rattle.fo_looks.specs.of_crash.Images.{target}
use Rattle.fo_looks.specs.of_crash.Places.{place, place_below, IsPlaced}
use Rattle.fo_looks.specs.of_ports.Blocks.{IsInner}
use Rattle.fo_looks.specs.of_ports.State.{State, KeepsAll, Looks}
use Rattle.fo_looks.proofs.Looks.{rooted_looks}
use Rattle.fo_tree_read.specs.declared.tree.Tree.{Tree}
use Rattle.fo_tree_read.specs.Tree.{kind_at, kind_down, is_none, score_in, below, block_at, StandsAs, Hangs, Got, Way, above, IsNear, HasPins, IsFound, Names}

-- where a block leads whose content is known
below_same : (a b : State) (kind : Kind) (p q : Pointer) (i : ℕ) → q ≡ p → ((score : Score) (k : ℕ) → b.held score k ≡ a.held score k) → ((at : ℕ) → p ≡ Local at → (j : ℕ) → (b.now at).slot j ≡ (a.now at).slot j) → below b kind q i ≡ below a kind p i
below_same a b kind p q i same held known = ap (λ (x : Pointer). below b kind x i) same ∙ by p known
  where
    by : (p : Pointer) → ((at : ℕ) → p ≡ Local at → (j : ℕ) → (b.now at).slot j ≡ (a.now at).slot j) → below b kind p i ≡ below a kind p i
    by Nil known = refl
    by (Local at) known = ap (λ (s : Slot). target s) (known at refl i)
    by (Held score) known = ap (λ h. score_in h i) (held score (kind_code kind))

-- a look at a device that tells changes nothing
pub told_same : {a b : State} → KeepsAll a b → Looks a b → a.tells → (t : Tree) (n k : ℕ) → block_at b t n k ≡ block_at a t n k
told_same all looks told t zero k = refl
told_same {a = a} {b = b} all looks told t (suc n) k = below_same a b (kind_down t n) (block_at a t n (k / 409)) (block_at b t n (k / 409)) (k % 409) (told_same all looks told t n (k / 409)) all.same_held (λ at e j. ((looks.memory told).each at).slots j)

-- nor does one at a way that was got
pub way_same : {a b : State} → KeepsAll a b → Looks a b → (t : Tree) (n k : ℕ) → Way a t n k → block_at b t n k ≡ block_at a t n k
way_same all looks t zero k way = refl
way_same {a = a} {b = b} all looks t (suc n) k way = below_same a b (kind_down t n) (block_at a t n (k / 409)) (block_at b t n (k / 409)) (k % 409) (way_same all looks t n (k / 409) way.0) all.same_held (λ at e j. (looks.known at (way.1 at e).is_pinned).slots j)

pub got_looks : {a b : State} → Looks a b → (kind : Kind) (p : Pointer) → Got a kind p → Got b kind p
got_looks looks kind p got at e = let was = got at e in record {
  is_pinned = (looks.stays.marks at (λ n. n)).0 was.is_pinned;
  has_kind = ap (λ (l : Label). l.kind) (looks.stays.labels at (λ n. n)) ∙ was.has_kind;
}

pub way_looks : {a b : State} → KeepsAll a b → Looks a b → (t : Tree) (n k : ℕ) → Way a t n k → Way b t n k
way_looks all looks t zero k way = tt
way_looks {a = a} {b = b} all looks t (suc n) k way = (way_looks all looks t n (k / 409) way.0, subst (λ (p : Pointer). Got b (kind_down t n) p) (sym (way_same all looks t n (k / 409) way.0)) (got_looks looks (kind_down t n) (block_at a t n (k / 409)) way.1))

pub hangs_looks : {a b : State} {t : Tree} → KeepsAll a b → Looks a b → Hangs a t → Hangs b t
hangs_looks {a = a} {b = b} {t = t} all looks hangs = record {
  few = hangs.few;
  room = hangs.room;
  low = hangs.low;
  is_one = λ at e. (all.same_blocks at).1 (hangs.is_one at e);
  told = λ told at e.
      let before = all.still_tells.0 told in
      let was = hangs.told before at e in
      let spared : b.covered at → ⊥ = λ h. was.1 ((looks.covered.covered at).0 h) in
      (looks.stays.places before at (place (kind_at t.dir t.depth) t.tag 0 (t.rank + t.depth)) (λ n. n) (λ n. n) spared (rooted_looks all looks before at (hangs.rooted before at e)) was.0, spared);
  rooted = λ told at e. let before = all.still_tells.0 told in rooted_looks all looks before at (hangs.rooted before at e);
}

-- the scores that a source names
pub names_looks : {a b : State} {t : Tree} → KeepsAll a b → Looks a b → (score : Score) (kind : ℕ) → Names b t score kind → Names a t score kind
names_looks {t = t} all looks score kind names = λ told. let is = names (all.still_tells.1 told) in record {
  down = is.down;
  index = is.index;
  within = is.within;
  is = sym (told_same all looks told t is.down is.index) ∙ is.is;
  kind_is = is.kind_is;
}

pub inner_kind : (dir : Bool) (level : ℕ) → 0 < level → IsInner (kind_at dir level)
inner_kind true level lt = lt
inner_kind false level lt = lt

-- a score leads to no block of the device
score_apart : (b : Bool) (bytes : List ℕ) (at : ℕ) → cond b Nil (Held (record { 0 = bytes })) ≡ Local at → ⊥
score_apart true bytes at e = cc
score_apart false bytes at e = cc

pub held_apart : (h : Option (List ℕ)) (i at : ℕ) → score_in h i ≡ Local at → ⊥
held_apart None i at e = cc
held_apart (Some bytes) i at e = score_apart (is_none (take 20 (drop (20 * i) bytes))) (take 20 (drop (20 * i) bytes)) at e

place_down : (dir : Bool) (tag index rank level i : ℕ) (s : Slot) → place_below (place (kind_at dir (suc level)) tag index rank) i s ≡ place (kind_at dir level) tag (409 * index + i) (rank - 1)
place_down true tag index rank level i s = refl
place_down false tag index rank level i s = refl

-- a block so many steps below the top stands at a place of its kind and rank
pub record IsDown (s : State) (t : Tree) (n at : ℕ) : Type 0 where
  pub index : ℕ
  pub stands : s.stands at (place (kind_down t n) t.tag index (t.rank + (t.depth - n)))

module _ (s : State) (t : Tree) (placed : IsPlaced s.stands s.now) where
  down_one : (n a i at : ℕ) → suc n ≤ t.depth → IsDown s t n a → target ((s.now a).slot i) ≡ Local at → IsDown s t (suc n) at
  down_one n a i at within above e =
      let level : ℕ = t.depth - suc n in
      let is : t.depth - n ≡ suc level = omega (arith, within) in
      let from : s.stands a (place (kind_at t.dir (suc level)) t.tag above.index (t.rank + (t.depth - n))) =
      subst (λ l. s.stands a (place (kind_at t.dir l) t.tag above.index (t.rank + (t.depth - n)))) is above.stands in
      let to = placed.each a i at _ from e in
      let rank : t.rank + (t.depth - n) - 1 ≡ t.rank + level = omega (arith, is) in
      record {
        index = 409 * above.index + i;
        stands = subst (λ r. s.stands at (place (kind_at t.dir level) t.tag (409 * above.index + i) r)) rank (subst (λ (p : Place). s.stands at p) (place_down t.dir t.tag above.index (t.rank + (t.depth - n)) level i ((s.now a).slot i)) to);
      }

  down_from : (n i at : ℕ) (p : Pointer) → suc n ≤ t.depth → ((a : ℕ) → p ≡ Local a → IsDown s t n a) → below s (kind_down t n) p i ≡ Local at → IsDown s t (suc n) at
  down_from n i at Nil within above e = absurd (nil_apart e)
    where
      nil_apart : Nil ≡ Local at → ⊥
      nil_apart e = cc
  down_from n i at (Local a) within above e = down_one n a i at within (above a refl) e
  down_from n i at (Held score) within above e = absurd (held_apart (s.held score (kind_code (kind_down t n))) i at e)

  pub is_down : Hangs s t → s.tells → (n k at : ℕ) → n ≤ t.depth → block_at s t n k ≡ Local at → IsDown s t n at
  is_down hangs told zero k at within e =
      let all : t.depth - zero ≡ t.depth = omega arith in
      record { index = 0; stands = subst (λ l. s.stands at (place (kind_at t.dir l) t.tag 0 (t.rank + l))) (sym all) (hangs.told told at e).0 }
  is_down hangs told (suc n) k at within e = down_from n (k % 409) at (block_at s t n (k / 409)) within (λ a f. is_down hangs told n (k / 409) a (omega (arith, within)) f) e

pub tree_stands : (s : State) (t : Tree) → IsPlaced s.stands s.now → Hangs s t → s.tells → (n k at : ℕ) → n ≤ t.depth → block_at s t n k ≡ Local at → StandsAs s (kind_down t n) (t.rank + (t.depth - n)) at
tree_stands s t placed hangs told n k at within e = let is = is_down s t placed hangs told n k at within e in record { there = place (kind_down t n) t.tag is.index (t.rank + (t.depth - n)); stands = is.stands; has_kind = refl; has_rank = refl }

-- ---- one step after another

near_above : {s : State} {t : Tree} {n j k : ℕ} → IsNear s t (suc n) j k → IsNear s t n (j / 409) (k / 409)
near_above near = record { from = omega (arith, near.from); to = omega (arith, near.to); way = near.way.0 }

-- a way to a block goes by the way to the one above
pub pins_above : (s : State) (t : Tree) (n k : ℕ) → HasPins s t (suc n) k → HasPins s t n (k / 409)
pins_above s t n k pins = ⊎_elim
    (λ le. inl (omega (arith, le)))
    (λ h. let le : k / 409 + above n (k / 409) ≤ s.pins_left + (h.0 / 409 + above n (h.0 / 409)) = h.2 in inr (h.0 / 409, near_above h.1, omega (arith, le, h.1.from)))
    pins

found_above : (s : State) (t : Tree) (n k : ℕ) → IsFound s t (suc n) k → IsFound s t n (k / 409)
found_above s t n k is = ⊎_elim (λ told. inl told) (λ pins. inr (pins_above s t n k pins)) is

-- A walk to block k, so many steps below the top, found this of the pointer to it.
pub record Walked (old new : State) (t : Tree) (n k : ℕ) (Found : Pointer → Type 0) : Type 0 where
  pub found : IsFound old t n k → Found (block_at new t n k)
  pub way : HasPins old t n k → Way new t n k

-- How many pins a walk took.
pub record Took (old new : State) (t : Tree) (n k : ℕ) : Type 0 where
  pub pins : old.pins_left ≤ new.pins_left + n
  pub near : (j : ℕ) → IsNear old t n j k → old.pins_left + above n j ≤ new.pins_left + above n k

-- a walk that was refused above
pub took_less : {old mid : State} {t : Tree} {n k : ℕ} → Took old mid t n (k / 409) → Took old mid t (suc n) k
took_less took = record {
  pins = let p = took.pins in omega (arith, p);
  near = λ j near. let p = took.near (j / 409) (near_above near) in omega (arith, p, near.from);
}

module _ (old mid new : State) (t : Tree) (n k : ℕ) (Found : Pointer → Type 0)
    (all : KeepsAll old mid) (looks : Looks old mid) (more : KeepsAll mid new) (more_looks : Looks mid new)
    (walked : Walked old mid t n (k / 409) Found) (took : Took old mid t n (k / 409)) where
  kd : Kind
  kd = kind_down t n

  -- the block above was got before, where the way to the last block went by it
  got_before : (j : ℕ) → IsNear old t (suc n) j k → j / 409 ≡ k / 409 → Got mid (kind_down t n) (block_at mid t n (k / 409))
  got_before j near same =
      let here : Got mid (kind_down t n) (block_at mid t n (j / 409)) = subst (λ (p : Pointer). Got mid (kind_down t n) p) (sym (way_same all looks t n (j / 409) near.way.0)) (got_looks looks (kind_down t n) (block_at old t n (j / 409)) near.way.1) in
      subst (λ i. Got mid (kind_down t n) (block_at mid t n i)) same here

  has_pins : (j : ℕ) → IsNear old t (suc n) j k → j / 409 ≡ k / 409 → HasPins old t n (k / 409)
  has_pins j near same = inr (j / 409, near_above near, subst (λ i. above n i ≤ old.pins_left + above n (j / 409)) same (omega arith))

  enough : HasPins old t (suc n) k → (0 < mid.pins_left) ⊎ Got mid (kind_down t n) (block_at mid t n (k / 409))
  enough pins = ⊎_elim
      (λ (le : suc n ≤ old.pins_left). inl (let p = took.pins in omega (arith, le, p)))
      (λ h. ⊎_elim
      (λ same. inr (got_before h.0 h.1 same))
      (λ ne. inl (let p = took.near (h.0 / 409) (near_above h.1) in let le : k / 409 + above n (k / 409) ≤ old.pins_left + (h.0 / 409 + above n (h.0 / 409)) = h.2 in omega (arith, p, le, ne, h.1.from, h.1.to)))
      (cases_eq (h.0 / 409) (k / 409)))
      pins

  pub took_more : mid.pins_left ≤ new.pins_left + 1 → ((q : Pointer) → Found q → Got mid (kind_down t n) q → mid.pins_left ≤ new.pins_left) → Took old new t (suc n) k
  took_more one again = record {
    pins = let p = took.pins in omega (arith, p, one);
    near = λ j near.
        let p = took.near (j / 409) (near_above near) in
        ⊎_elim
        (λ same. let le = again (block_at mid t n (k / 409)) (walked.found (inr (has_pins j near same))) (got_before j near same) in omega (arith, p, le, same))
        (λ ne. omega (arith, p, one, ne, near.from, near.to))
        (cases_eq (j / 409) (k / 409));
  }

  pub walked_more : (Next : Pointer → Type 0) → ((q : Pointer) → Found q → Next (below new (kind_down t n) q (k % 409))) → ((q : Pointer) → Found q → (0 < mid.pins_left) ⊎ Got mid (kind_down t n) q → Got new (kind_down t n) q) → Walked old new t (suc n) k Next
  walked_more Next step got = record {
    found = λ is.
        let q : Pointer = block_at mid t n (k / 409) in
        let same : block_at new t n (k / 409) ≡ block_at mid t n (k / 409) = ⊎_elim
        (λ told. told_same more more_looks (all.still_tells.1 told) t n (k / 409))
        (λ pins. way_same more more_looks t n (k / 409) (walked.way (pins_above old t n k pins)))
        is in
        subst (λ (p : Pointer). Next (below new (kind_down t n) p (k % 409))) (sym same) (step q (walked.found (found_above old t n k is)));
    way = λ pins.
        let way = walked.way (pins_above old t n k pins) in
        (way_looks more more_looks t n (k / 409) way, subst (λ (p : Pointer). Got new (kind_down t n) p) (sym (way_same more more_looks t n (k / 409) way)) (got (block_at mid t n (k / 409)) (walked.found (inr (pins_above old t n k pins))) (enough pins)));
  }
