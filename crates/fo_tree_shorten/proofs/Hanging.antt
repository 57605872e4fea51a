-- A source that hangs from its entry, once what stood behind its end was cleared.
use Rattle.std.proofs.Common.{◌≡◌, ◌⊎◌, ◌+◌, ◌-◌, ◌*◌, ◌<◌, ◌≤◌, ℕ, List, inl, ⊎_elim, subst, arith}
use Rattle.fo_crash.specs.declared.place.Place.{Place}
use Rattle.fo_crash.specs.Places.{OnePlace, place, super_place}
use Rattle.fo_crash.proofs.Places.{stands_below}
use Rattle.fo_ports.specs.State.{State}
use Rattle.fo_tree_read.specs.declared.tree.Tree.{Tree}
use Rattle.fo_tree_read.specs.Tree.{kind_down}
use Rattle.fo_tree_look.specs.declared.ways.Kept.{Kept}
use Rattle.fo_tree_link.specs.of_tree_open.Open.{NamesRank}
use Rattle.fo_tree_link.specs.Change.{HangsInTree}
use Rattle.fo_tree_link.proofs.Walks.{rank_lower}
use Rattle.fo_tree_trim.specs.Cut.{CutSlot, HangsFrom, Cuts}
use Rattle.fo_tree_trim.proofs.Keeping.{Trims, trim_back, trim_free}
use Rattle.fo_tree_trim.proofs.Past.{Said, past_place}
use Rattle.fo_tree_trim.proofs.Removing.{hangs_below}

-- What stood behind the end of a source that hangs from its entry was cleared.
pub record HungTrim (u v : State) (t : Tree) (kept : List Kept) (last at i : ℕ) : Type 0 where
  pub trims : Trims u v t kept last
  pub told : u.tells
  pub hangs : HangsInTree u t at i
  pub few : t.depth ≤ 4
  pub uncovered : u.covered at → ⊥
  pub end : OnePlace v.stands
  pub active : v.tops 1

module _ {u v : State} {t : Tree} {kept : List Kept} {last at i : ℕ} (x : HungTrim u v t kept last at i) where
  cuts : Cuts (CutSlot u t last (409 * t.depth)) u v
  cuts = x.trims.aside.cuts

  said : Said u t last
  said = x.trims.said x.told

  there : (p : Place) × u.stands at p × ((p.rank < super_place.rank) ⊎ ((1 ≡ at) × (p ≡ super_place)))
  there = stands_below super_place said.placed said.ranked said.super_stands x.hangs.in_tree

  -- the block with the entry is above the source
  high : (p : Place) → u.stands at p → t.rank + t.depth < p.rank
  high p stands = rank_lower p.kind p.rank i t.dir t.rank t.depth (x.hangs.ranked p stands) x.few

  at_free : HangsFrom (CutSlot u t last (409 * t.depth)) u at → ⊥
  at_free h = ⊎_elim
      (λ p. let up = high (place (kind_down t p.down) t.tag p.index (t.rank + (t.depth - p.down))) (past_place said p) in omega (arith, up))
      (λ low. let up = high low.place low.stands in let lt = low.lower in omega (arith, up, lt))
      (hangs_below said at h)

  pub hangs_on : HangsInTree v t at i
  hangs_on = record {
    in_tree = cuts.reached x.told 1 at at_free x.hangs.in_tree;
    ranked = λ p stands.
        let was = there in
        let same : was.0 ≡ p = x.end.each at was.0 p (cuts.places x.told at was.0 (cuts.only x.told at x.uncovered at_free) (1, inl x.active, cuts.reached x.told 1 at at_free x.hangs.in_tree) was.1) stands in
        subst (λ (q : Place). NamesRank q.kind q.rank i t.dir t.rank) same (x.hangs.ranked was.0 was.1);
    owned = λ b has. cuts.reached x.told 1 b (trim_free x.trims x.told b has) (x.hangs.owned b (trim_back x.trims b has));
    none = λ y z h. x.hangs.none y z ((cuts.instead y z).0 h);
  }
