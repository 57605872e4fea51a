-- The ways to the leaves that a piece touches.
use Rattle.std.proofs.Common.{◌≡◌, ◌⊎◌, ◌+◌, ◌-◌, ◌*◌, ◌/◌, ◌^◌, ◌<◌, ◌≤◌, ℕ, zero, suc, List, inl, inr, ⊎_elim, sym, ap, ◌∙◌, subst, arith}
use Rattle.std.proofs.lemmas.Bool.{cases_eq, cases_lt}
use Rattle.fo_image.specs.declared.types.Label.{Label}
use Rattle.fo_image.specs.declared.types.Pointer.{Pointer}
use Rattle.fo_crash.specs.declared.place.Place.{Place}
use Rattle.fo_crash.specs.Images.{Image}
use Rattle.fo_crash.specs.Places.{IsPlaced, RanksFall}
use Rattle.fo_ports.specs.State.{State, KeepsAll}
use Rattle.fo_ports.specs.Sources.{Made}
use Rattle.fo_tree_read.proofs.of_looks.Free.{Standing}
use Rattle.fo_tree_read.specs.declared.tree.Tree.{Tree}
use Rattle.fo_tree_look.specs.declared.ways.Kept.{Kept}
use Rattle.fo_tree_look.specs.Source.{HasBlock, IsTold, Prepared, WayReady}
use Rattle.fo_tree_clear.specs.of_tree_down.Way.{OnWay}
use Rattle.fo_tree_clear.specs.of_tree_down.Clear.{EndsClear}
use Rattle.fo_tree_clear.proofs.of_tree_down.Beside.{on_way_block}
use Rattle.fo_tree_lift.proofs.of_tree_raise.Clear.{way_past}
use Rattle.fo_tree_clear.specs.Steps.{Steps}
use Rattle.fo_tree_clear.proofs.Stepping.{Follows, steps_join}
use Rattle.fo_tree_write.specs.Write.{at_top}
use Rattle.fo_tree_write.proofs.Writing.{way_cases, way_still}
use Rattle.fo_tree_append.specs.Append.{OnLeaves}

-- a block is on one of these ways, or isn't
pub leaves_cases : (s : State) (t : Tree) (first last b : ℕ) → OnLeaves s t first last b ⊎ (OnLeaves s t first last b → ⊥)
leaves_cases s t first last b = ⊎_elim
    (λ found. inl found)
    (λ none. inr (λ is. let from = is.from in let to = is.to in none is.leaf from (omega (arith, from, to)) is.on))
    (among (last + 1 - first) (omega arith))
  where
    among : (m : ℕ) → m ≤ last + 1 - first → OnLeaves s t first last b ⊎ ((j : ℕ) → first ≤ j → j < first + m → OnWay s t t.depth j b → ⊥)
    among zero le = inr (λ j from lt on. absurd (omega (arith, from, lt)))
    among (suc m) le = ⊎_elim
        (λ found. inl found)
        (λ none. ⊎_elim
        (λ on. inl (record { leaf = first + m; from = omega arith; to = omega (arith, le); on = on }))
        (λ not. inr (λ j from lt on. ⊎_elim (λ e. not (subst (λ i. OnWay s t t.depth i b) e on)) (λ ne. none j from (omega (arith, lt, ne)) on) (cases_eq j (first + m))))
        (way_cases s t t.depth (first + m) b))
        (among m (omega (arith, le)))

-- the way to each leaf of a piece is prepared, as far as the source's levels have room
pub way_before : (s : State) (t : Tree) (kept : List Kept) (limit offset len : ℕ) → 0 < len → Prepared s t kept limit offset len → EndsClear s t kept → (j : ℕ) → offset / 8192 ≤ j → j ≤ (offset + len - 1) / 8192 → j < 409 ^ t.depth → WayReady s t kept t.depth j
way_before s t kept limit offset len some prepared clear j from to few = ⊎_elim
    (λ inside. ⊎_elim
    (λ lt.
    let here : offset / 8192 ≡ j = omega (arith, from, lt) in
    subst (λ i. WayReady s t kept t.depth i) here (prepared.each offset (omega arith) (omega (arith, some)) (omega (arith, here, inside))))
    (λ ge.
    let here : (8192 * j) / 8192 ≡ j = omega arith in
    subst (λ i. WayReady s t kept t.depth i) here (prepared.each (8192 * j) ge (omega (arith, to, some)) (omega (arith, inside))))
    (cases_lt (8192 * j) offset))
    (λ past. way_past s t kept clear j past few)
    (cases_lt (8192 * (j + 1)) t.size)

-- a way stays prepared over a call
pub way_after : (s m : State) (t new : Tree) (kept : List Kept) → new.size ≡ t.size → new.depth ≡ t.depth → ((limit o n : ℕ) → Prepared s t kept limit o n → Prepared m new kept limit o n) → EndsClear m new kept → (j : ℕ) → j < 409 ^ t.depth → WayReady s t kept t.depth j → WayReady m new kept new.depth j
way_after s m t new kept size depth still clear j few way = ⊎_elim
    (λ lt. way_still s m t new kept j size depth lt still way)
    (λ ge. way_past m new kept clear j (omega (arith, size, ge)) (subst (λ d. j < 409 ^ d) (sym depth) few))
    (cases_lt (8192 * j) t.size)

-- One leaf more was put into.
pub record LeafThen (s u v : State) (t : Tree) (top : Pointer) (first last i : ℕ) : Type 0 where
  pub before : Steps t.tag (λ b. OnLeaves s t first last b) (λ b. OnLeaves s t first last b) s u
  pub step : Steps t.tag (OnWay u (at_top t top) t.depth i) (OnWay u (at_top t top) t.depth i) u v
  pub all : KeepsAll s v
  pub from : first ≤ i
  pub to : i ≤ last
  pub ways : (b : ℕ) → OnWay u (at_top t top) t.depth i b → OnWay s t t.depth i b ⊎ Made s u b
  pub told_old : s.tells → (b : ℕ) → HasBlock s t b → IsTold s t.top b
  pub told_mid : u.tells → (b : ℕ) → HasBlock u (at_top t top) b → IsTold u (at_top t top).top b
  pub placed : (image : Image) → s.may_leave image → IsPlaced s.stands image
  pub ranked : (image : Image) → s.may_leave image → RanksFall s.stands image
  pub top_stands : (image : Image) → s.may_leave image → (up : ℕ) → s.tops up → (p : Place) × s.stands up p
  pub told : (image : Image) → s.may_leave image → s.tells
  pub standing : Standing s

module _ {s u v : State} {t : Tree} {top : Pointer} {first last i : ℕ} (x : LeafThen s u v t top first last i) where
  leaf_of : (b : ℕ) → OnWay u (at_top t top) t.depth i b → OnLeaves s t first last b ⊎ Made s u b
  leaf_of b on = ⊎_elim
      (λ old. inl (record { leaf = i; from = x.from; to = x.to; on = old }))
      (λ made. inr made)
      (x.ways b on)

  follows : Follows t.tag (λ b. OnLeaves s t first last b) (λ b. OnLeaves s t first last b) (OnWay u (at_top t top) t.depth i) (OnWay u (at_top t top) t.depth i) s u v
  follows = record {
    first = x.before;
    second = x.step;
    all = x.all;
    of = leaf_of;
    within = leaf_of;
    cases = λ b. way_cases u (at_top t top) t.depth i b;
    rooted = λ told b on older. (x.told_mid told b (on_way_block u (at_top t top) t.depth i b (omega arith) on)).in_tree older;
    up_to = λ told b on. (x.told_mid told b (on_way_block u (at_top t top) t.depth i b (omega arith) on)).up_to;
    placed = x.placed;
    ranked = x.ranked;
    top_stands = x.top_stands;
    told = x.told;
    standing = x.standing;
  }

  pub leaf_steps : Steps t.tag (λ b. OnLeaves s t first last b) (λ b. OnLeaves s t first last b) s v
  leaf_steps = steps_join follows

  -- what is current stays of the source
  pub leaf_stays : (new : Tree) → (s.tells → (b : ℕ) → HasBlock s t b → (s.label b).epoch ≡ s.high → HasBlock u (at_top t top) b) → (u.tells → (b : ℕ) → HasBlock u (at_top t top) b → (u.label b).epoch ≡ u.high → HasBlock v new b) → s.tells → (b : ℕ) → HasBlock s t b → (s.label b).epoch ≡ s.high → HasBlock v new b
  leaf_stays new before after told b has now =
      after (x.before.all.still_tells.1 told) b (before told b has now)
      (ap (λ (l : Label). l.epoch) (x.before.others b (λ made. made.0 (x.told_old told b has).live)).label ∙ now ∙ sym x.before.all.same_high)
