-- A source that was changed may be linked.
use Rattle.std.proofs.Common.{◌≡◌, ◌⊎◌, ◌+◌, ◌-◌, ◌<◌, ◌≤◌, ℕ, true, List, inl, inr, ⊎_elim, refl, sym, ◌∙◌, ap, subst, arith}
use Rattle.std.proofs.lemmas.Bool.{cases_eq}
use Rattle.fo_image.specs.declared.types.Pointer.{Pointer}
use Rattle.fo_image.specs.declared.types.Pointer.TheVariants.{Local}
use Rattle.fo_crash.specs.declared.slot.Slot.{Slot}
use Rattle.fo_crash.specs.declared.slot.Slot.TheVariants.{Entry as Head}
use Rattle.fo_crash.specs.declared.place.Place.{Place}
use Rattle.fo_crash.specs.Images.{Reaches, target, walk, to_block}
use Rattle.fo_crash.specs.Places.{place, place_below, super_place}
use Rattle.fo_crash.proofs.Places.{stands_below}
use Rattle.fo_crash.proofs.Reach.{reaches_on}
use Rattle.fo_ports.specs.Blocks.{dropped, zeros}
use Rattle.fo_ports.specs.State.{State, KeepsAll}
use Rattle.fo_ports.specs.Sources.{Made, ComesFor}
use Rattle.fo_tree_read.specs.declared.tree.Tree.{Tree}
use Rattle.fo_tree_read.specs.Tree.{kind_down, block_at}
use Rattle.fo_tree_read.proofs.Walk.{is_down}
use Rattle.fo_tree_look.specs.declared.ways.Kept.{Kept}
use Rattle.fo_tree_look.specs.Source.{HasBlock, Over}
use Rattle.fo_tree_down.proofs.of_tree_own.Link.{Laws}
use Rattle.fo_tree_open.specs.Open.{NamesRank}
use Rattle.fo_tree_link.specs.Link.{entry_of, led_from, CanLink}
use Rattle.fo_tree_link.specs.Change.{HangsInTree, SameSource, KeepsEntries, KeepsOthers}
use Rattle.fo_tree_link.proofs.Walks.{rank_lower}

pub record Changed (s u : State) (t new : Tree) (kept : List Kept) (limit generation at i : ℕ) : Type 0 where
  pub laws : Laws s
  pub end : Laws u
  pub one_stays : u.covered 1 → ⊥
  pub all : KeepsAll s u
  pub over : Over s t kept limit
  pub entry : (u.now at).slot i ≡ Head (entry_of t generation)
  pub same : SameSource t new
  pub comes : (from : Pointer) → ComesFor s t.top from → ComesFor u new.top from
  pub only : (y z : ℕ) → u.instead y z → (new.top ≡ Local y) ⊎ (s.instead y z × (t.top ≡ Local y → ⊥))
  pub others : KeepsOthers s u t
  pub told : s.tells
  pub linked : HangsInTree s t at i
  pub leaves : KeepsEntries s u t new

module _ {s u : State} {t new : Tree} {kept : List Kept} {limit generation at i : ℕ} (x : Changed s u t new kept limit generation at i) where
  -- the rank of a block of the source
  rank_of : (b : ℕ) → HasBlock s t b → (p : Place) → s.stands b p → (t.rank ≤ p.rank) × (p.rank ≤ t.rank + t.depth)
  rank_of b has p stands =
      let down = is_down s t (x.laws.placed x.told) x.over.hangs x.told has.down has.index b has.within has.is in
      let is : p.rank ≡ t.rank + (t.depth - has.down) = ap (λ (q : Place). q.rank) (x.laws.one.each b p (place (kind_down t has.down) t.tag down.index (t.rank + (t.depth - has.down))) stands down.stands) in
      (omega (arith, is), omega (arith, is))

  there : (p : Place) × s.stands at p × ((p.rank < super_place.rank) ⊎ ((1 ≡ at) × (p ≡ super_place)))
  there = stands_below super_place (x.laws.placed x.told) (x.laws.ranked x.told) (x.laws.super_stands x.told) x.linked.in_tree

  -- the block with the entry is none of the source
  not_own : HasBlock s t at → ⊥
  not_own has =
      let high = rank_lower there.0.kind there.0.rank i t.dir t.rank t.depth (x.linked.ranked there.0 there.1) x.over.hangs.few in
      let most = (rank_of at has there.0 there.1).1 in
      omega (arith, high, most)

  in_tree_end : Reaches u.now (to_block 1) at
  in_tree_end = x.others.in_tree x.told at not_own x.linked.in_tree

  not_made : Made s u at → ⊥
  not_made made = made.0 (x.laws.live at x.told (x.others.made at made) x.linked.in_tree).0

  free_end : u.covered at → ⊥
  free_end = ⊎_elim
      (λ one h. x.one_stays (subst (λ y. u.covered y) one h))
      (λ ne. (x.end.live at (x.all.still_tells.1 x.told) ne in_tree_end).2)
      (cases_eq at 1)

  ranked_end : (p : Place) → u.stands at p → NamesRank p.kind p.rank i new.dir new.rank
  ranked_end p stands =
      let still : u.stands at there.0 = x.others.places x.told at there.0 not_made not_own free_end (1, inl x.end.active, in_tree_end) there.1 in
      let is : there.0 ≡ p = x.end.one.each at there.0 p still stands in
      subst (λ d. NamesRank p.kind p.rank i d new.rank) (sym x.same.dir)
      (subst (λ r. NamesRank p.kind p.rank i t.dir r) (sym x.same.rank)
      (subst (λ (q : Place). NamesRank q.kind q.rank i t.dir t.rank) is (x.linked.ranked there.0 there.1)))

  -- ---- no level goes

  none_dropped : dropped ((u.now at).slot i) (Head (entry_of new generation)) ≡ 0
  none_dropped = ap (λ (q : Slot). dropped q (Head (entry_of new generation))) x.entry ∙ less
    where
      less : t.depth - new.depth ≡ 0
      less = let more = x.same.more in omega (arith, more)

  led_is : target (led_from u at i (entry_of new generation)) ≡ t.top
  led_is = ap (λ n. target (walk u.now ((u.now at).slot i) (zeros n))) none_dropped ∙ ap (λ (q : Slot). target q) x.entry

  comes_end : ComesFor u new.top (target (led_from u at i (entry_of new generation)))
  comes_end =
      let first : ComesFor s t.top t.top = inl (refl, λ b is apart. x.laws.apart_hangs x.told b apart (x.linked.owned b (record { down = 0; index = 0; within = omega arith; is = is }))) in
      subst (λ p. ComesFor u new.top p) (sym led_is) (x.comes t.top first)

  -- ---- what its entries name

  -- what hangs below a leaf is none of the source
  named_apart : (k a j b : ℕ) → block_at s t t.depth k ≡ Local a → target ((s.now a).slot j) ≡ Local b → HasBlock s t b → ⊥
  named_apart k a j b is leads has =
      let down = is_down s t (x.laws.placed x.told) x.over.hangs x.told t.depth k a (omega arith) is in
      let p : Place = place (kind_down t t.depth) t.tag down.index (t.rank + (t.depth - t.depth)) in
      let low = (x.laws.ranked x.told).each a j b p down.stands leads in
      let most = (rank_of b has (place_below p j ((s.now a).slot j)) ((x.laws.placed x.told).each a j b p down.stands leads)).0 in
      let none : t.depth - t.depth ≡ 0 = omega arith in
      less (place_below p j ((s.now a).slot j)).rank (t.depth - t.depth) none low most
    where
      less : (r d : ℕ) → d ≡ 0 → r < t.rank + d → t.rank ≤ r → ⊥
      less r d none low most = omega (arith, none, low, most)

  names_end : new.dir ≡ true → (k a j b : ℕ) → block_at u new new.depth k ≡ Local a → target ((u.now a).slot j) ≡ Local b → Reaches u.now (to_block 1) b
  names_end dir k a j b is leads =
      let was : t.dir ≡ true = sym x.same.dir ∙ dir in
      ⊎_elim
      (λ old.
      let m : ℕ = old.0 in
      let c : ℕ = old.1 in
      let before : target ((s.now c).slot j) ≡ Local b = ap (λ (q : Slot). target q) (sym (old.3 j)) ∙ leads in
      x.others.in_tree x.told b (named_apart m c j b old.2 before) (reaches_on j (x.linked.owned c (record { down = t.depth; index = m; within = omega arith; is = old.2 })) before))
      (λ none. absurd (none j b leads))
      (x.leaves.each was k a is)

  pub can_link : CanLink u new generation at i
  can_link = record {
    in_tree = in_tree_end;
    ranked = ranked_end;
    comes = inr comes_end;
    only = λ y z h r. ⊎_elim (λ own. own) (λ old. absurd (x.linked.none y z old.0)) (x.only y z h);
    names = names_end;
    down = λ some. let none = none_dropped in absurd (omega (arith, some, none));
    still = λ some. let none = none_dropped in absurd (omega (arith, some, none));
  }
