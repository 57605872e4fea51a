-- Where the blocks of a source stand.
use Rattle.std.proofs.Common.{◌≡◌, ◌+◌, ◌-◌, ℕ, Bool, true, false, sym, ◌∙◌, ap, subst}
use Rattle.fo_crash.specs.declared.place.Place.{Place}
use Rattle.fo_crash.specs.Places.{IsPlaced, OnePlace, place, super_place}
use Rattle.fo_ports.specs.State.{State}
use Rattle.fo_tree_read.specs.declared.tree.Tree.{Tree}
use Rattle.fo_tree_read.specs.Tree.{Hangs, kind_down}
use Rattle.fo_tree_read.proofs.Walk.{is_down}
use Rattle.fo_tree_look.specs.Source.{HasBlock}
use Rattle.fo_tree_link.proofs.Named.{leaf_not_root}

pub not_both : {d : Bool} → d ≡ true → d ≡ false → ⊥
not_both is isnt = let e : true ≡ false = sym is ∙ isnt in cc

-- What a device that tells says of them.
pub record Labelled (s : State) : Type 0 where
  pub told : s.tells
  pub placed : IsPlaced s.stands s.now
  pub one : OnePlace s.stands
  pub super_stands : s.stands 1 super_place
  pub tags : (b : ℕ) (p : Place) → (b ≡ 1 → ⊥) → s.stands b p → (s.label b).tag ≡ p.tag

-- each has the source's tag
pub tagged : {s : State} {t : Tree} → Labelled s → Hangs s t → (b : ℕ) → HasBlock s t b → (s.label b).tag ≡ t.tag
tagged {s = s} {t = t} x hangs b has =
    let down = is_down s t x.placed hangs x.told has.down has.index b has.within has.is in
    let there : Place = place (kind_down t has.down) t.tag down.index (t.rank + (t.depth - has.down)) in
    x.tags b (place (kind_down t has.down) t.tag down.index (t.rank + (t.depth - has.down)))
    (λ one. leaf_not_root t.dir (t.depth - has.down) (ap (λ (p : Place). p.kind) (x.one.each 1 (place (kind_down t has.down) t.tag down.index (t.rank + (t.depth - has.down))) super_place (subst (λ y. s.stands y (place (kind_down t has.down) t.tag down.index (t.rank + (t.depth - has.down)))) one down.stands) x.super_stands)))
    down.stands
