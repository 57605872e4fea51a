use Rattle.std.proofs.Common.{◌≡◌, ◌+◌, ◌-◌, subst, sym, ◌∙◌, ap, arith}
use Rattle.fo_crash.specs.declared.place.Place.{Place}
use Rattle.fo_crash.specs.Places.{place, super_place}
use Rattle.fo_tree_read.specs.Tree.{kind_down}
use Rattle.fo_tree_read.proofs.Walk.{is_down}
use Rattle.fo_tree_look.proofs.Shown.{held_on}
use Rattle.fo_tree_link.proofs.Named.{leaf_is, leaf_not_root}
use Rattle.fo_tree_link.proofs.Owning.{owned_entries}
use Rattle.fo_tree_link.proofs.laws.owned_entries.Goals as goal

pub returns : goal.returns
returns g c = λ told.
    let on = c.args.before.now in
    let s = g.B.Blocks.state on in
    let t = c.args.tree.now in
    let all = g.met.B.Blocks.keeps_all on c.args.after.now c.requires.keeps in
    owned_entries {kept = c.args.kept.now} {later = c.args.kept.now} {limit = c.requires.over.0} {generation = 0} {i = c.args.i} {at = c.args.at} (record {
      over = c.requires.over.1;
      all = all;
      held = held_on all c.args.kept.now c.requires.over.1.held;
      told = told;
      owned = c.requires.owned 0 c.requires.over.0;
      changes = c.requires.changes 0 c.requires.over.0;
      clear = c.requires.clear;
      leaf_kind = λ k a is.
          let down = is_down s t (g.met.B.Blocks.placed on s.now (g.met.B.Blocks.present on told)) c.requires.over.1.hangs told t.depth k a (omega arith) is in
          let p = place (kind_down t t.depth) t.tag down.index (t.rank + (t.depth - t.depth)) in
          let ne : a ≡ 1 → ⊥ = λ one. leaf_not_root t.dir (t.depth - t.depth) (ap (λ (q : Place). q.kind) ((g.met.B.Blocks.one_place on).each a p super_place down.stands (subst (λ y. s.stands y super_place) (sym one) (g.met.B.Blocks.super_stands on told)))) in
          (g.met.B.Blocks.labelled on a p told ne down.stands).1 ∙ leaf_is t.dir t.depth;
    })
