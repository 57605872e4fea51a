-- A source that is linked nowhere yet, and is linked then.
use Rattle.std.proofs.Common.{◌≡◌, ◌≢◌, ◌+◌, ℕ, true, false, inl, inr, refl, sym, ◌∙◌, ap, subst, arith}
use Rattle.fo_image.specs.declared.types.Pointer.{Pointer}
use Rattle.fo_image.specs.declared.types.Pointer.TheVariants.{Nil, Local}
use Rattle.fo_crash.specs.declared.place.Place.{Place}
use Rattle.fo_crash.specs.declared.slot.Slot.{Slot}
use Rattle.fo_crash.specs.declared.slot.Slot.TheVariants.{Entry as Head}
use Rattle.fo_crash.specs.Images.{target, walk}
use Rattle.fo_crash.specs.Names.{SameUse}
use Rattle.fo_crash.specs.Places.{place, root_place}
use Rattle.fo_ports.specs.Blocks.{cost, dropped, ends, zeros}
use Rattle.fo_ports.specs.State.{State}
use Rattle.fo_ports.specs.Sources.{ComesFor}
use Rattle.fo_tree_read.specs.declared.tree.Tree.{Tree}
use Rattle.fo_tree_read.specs.Tree.{kind_at}
use Rattle.fo_tree_look.specs.declared.ways.Ways.{Ways}
use Rattle.fo_tree_link.specs.Link.{entry_of, led_from, CanLink}
use Rattle.test_tree.specs.Rig.{Rig, IsNew, data_tree}
use Rattle.test_tree.specs.Linked.{Ground, HasBlank, NoneComes, Apart, blank_entry}
use Rattle.test_tree.proofs.Grounds.{not_root, root_ranked, root_reached, root_stands}

nil_local : (b : ℕ) → Nil ≡ Local b → ⊥
nil_local b e = cc

false_true : false ≡ true → ⊥
false_true e = cc

pub apart_new : (s : State) (w : Ways) → IsNew (data_tree 0 0 Nil) w → NoneComes s → HasBlank s → Apart s w
apart_new s w n none begun =
    let top : w.tree.top ≡ Nil = ap (λ (y : Tree). y.top) n.is in
    record {
      generation = n.generation;
      tag = ap (λ (y : Tree). y.tag) n.is;
      comes = inl (top, λ b e. absurd (nil_local b (sym top ∙ e)));
      only = λ y x h. absurd (none.each y x h);
      begun = begun;
    }

module _ {s : State} {w : Ways} (x : Ground s) (rig : Rig s w) (a : Apart s w) where
  abbrev t : Tree
  t = w.tree

  pub use_same : SameUse (Head (entry_of t w.generation)) ((s.now s.root).slot 0)
  use_same = subst (λ q. SameUse (Head (entry_of t w.generation)) q) (sym a.begun.entry) (a.generation, refl, rig.stands.plain, a.tag)

  pub top_other : (b : ℕ) → t.top ≡ Local b → b ≢ s.root
  top_other b is here =
      let stands = (rig.stands.over.hangs.told x.told b is).0 in
      let at_root : s.stands b root_place = subst (λ z. s.stands z root_place) (sym here) (root_stands x) in
      not_root t.dir t.depth (ap (λ (q : Place). q.kind) (x.one.each b (place (kind_at t.dir t.depth) t.tag 0 (t.rank + t.depth)) root_place stands at_root))

  none_less : dropped (Head blank_entry) (Head (entry_of t w.generation)) ≡ 0
  none_less = omega arith

  pub no_levels : dropped ((s.now s.root).slot 0) (Head (entry_of t w.generation)) ≡ 0
  no_levels = ap (λ q. dropped q (Head (entry_of t w.generation))) a.begun.entry ∙ none_less

  no_ends : ends (target ((s.now s.root).slot 0)) t.top ≡ 0
  no_ends = ap (λ (q : Slot). ends (target q) t.top) a.begun.entry

  pub costs_none : cost ((s.now s.root).slot 0) (Head (entry_of t w.generation)) ≡ 0
  costs_none = let levels = no_levels in let end = no_ends in omega (arith, levels, end)

  led_nil : target (led_from s s.root 0 (entry_of t w.generation)) ≡ Nil
  led_nil = ap (λ n. target (walk s.now ((s.now s.root).slot 0) (zeros n))) no_levels ∙ ap target a.begun.entry

  pub can_link : CanLink s t w.generation s.root 0
  can_link = record {
    in_tree = root_reached x;
    ranked = λ q stands. root_ranked x t.dir t.rank rig.stands.plain rig.stands.rank q stands;
    comes = inr (subst (λ (p : Pointer). ComesFor s t.top p) (sym led_nil) a.comes);
    only = λ y z h r. a.only y z h;
    names = λ dir. absurd (false_true (sym rig.stands.plain ∙ dir));
    down = λ some. absurd (let none = no_levels in omega (arith, none, some));
    still = λ some. absurd (let none = no_levels in omega (arith, none, some));
  }

  pub none_linked : {u : State} → ((z y : ℕ) → u.instead z y → s.instead z y × (t.top ≡ Local z → ⊥)) → NoneComes u
  none_linked instead = record { each = λ z y h. (instead z y h).1 (a.only z y (instead z y h).0) }
