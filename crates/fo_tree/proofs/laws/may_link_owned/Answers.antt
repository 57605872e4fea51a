use Rattle.std.proofs.Common.{◌≡◌, ◌+◌, ◌-◌, ℕ, List, inl, inr, ⊎_elim, refl, sym, ap, ◌∙◌, subst, arith}
use Rattle.fo_tree_look.specs.declared.ways.Kept.{Kept}
use Rattle.fo_crash.specs.declared.place.Place.{Place}
use Rattle.fo_crash.specs.Places.{place, super_place}
use Rattle.fo_ports.specs.Sources.{Form, Owned}
use Rattle.fo_tree_read.specs.Tree.{kind_down}
use Rattle.fo_tree_read.proofs.Walk.{is_down}
use Rattle.fo_tree_look.specs.Source.{Over, form_of, leaves_of}
use Rattle.fo_tree_link.proofs.Named.{leaf_is, leaf_not_root}
use Rattle.fo_tree_link.proofs.Owning.{owned_entries}
use Rattle.fo_tree_link.specs.Link.{CanLink}
use Rattle.fo_tree.proofs.Relinking.{same_source, only_any}
use Rattle.fo_tree.proofs.laws.may_link_owned.Goals as goal

pub may_link-requires-clause-over : goal.may_link-requires-clause-over
may_link-requires-clause-over g c =
    let s = g.B.Blocks.state c.args.before.now in
    let w = c.args.source.now.ways in
    (w.limit, subst (λ (k : List Kept). Over s w.tree k w.limit) (sym c.deref.ensures.value) c.requires.over)

pub may_link-requires-clause-same : goal.may_link-requires-clause-same
may_link-requires-clause-same g c =
    let w = c.args.source.now.ways in
    let n = c.args.new.now.ways in
    let within = c.requires.now.within in
    let low = c.requires.now.low in
    same_source w.tree n.tree w.generation w.limit n.generation n.limit c.requires.form c.requires.over.least c.requires.now.least c.requires.longer (omega (arith, within, low))

pub may_link-requires-clause-only : goal.may_link-requires-clause-only
may_link-requires-clause-only g c = λ told.
    let s = g.B.Blocks.state c.args.before.now in
    let u = g.B.Blocks.state c.args.after.now in
    let t = c.args.source.now.ways.tree in
    let new = c.args.new.now.ways.tree in
    only_any s u t new new.top refl (λ b made. (c.requires.grows.owns told b).1 made) (c.requires.linked told).none (λ y x h. ⊎_elim (λ old. inl old) (λ made. inr made.0) (c.requires.changes.instead y x h)) (c.requires.only told)

pub may_link-requires-clause-others : goal.may_link-requires-clause-others
may_link-requires-clause-others g c =
    let x = c.requires.changes in
    record { made = λ b made. (x.made b made).was.0; places = λ told b p not other free r stands. x.places told b p not other free r stands; rooted = x.rooted; in_tree = x.in_tree }

pub may_link-requires-clause-leaves : goal.may_link-requires-clause-leaves
may_link-requires-clause-leaves g c = λ told.
    let on = c.args.before.now in
    let s = g.B.Blocks.state on in
    let u = g.B.Blocks.state c.args.after.now in
    let w = c.args.source.now.ways in
    let n = c.args.new.now.ways in
    let t = w.tree in
    let all = g.met.B.Blocks.keeps_all on c.args.after.now c.requires.keeps in
    owned_entries {s = s} {u = u} {t = t} {new = n.tree} {kept = w.kept.items} {later = n.kept.items} {limit = w.limit} {generation = w.generation} {i = c.args.k} {at = c.args.leaf} (record {
      over = c.requires.over;
      all = all;
      told = told;
      owned = subst (λ (l : ℕ). Owned (form_of t w.generation w.limit) t.size c.args.k c.args.leaf s u (leaves_of s t w.kept.items w.limit) (leaves_of u n.tree n.kept.items l)) (ap (λ (f : Form). f.limit) c.requires.form) c.requires.owned;
      changes = c.requires.changes;
      clear = c.requires.trimmed (all.still_tells.1 told);
      held = c.requires.now.held;
      leaf_kind = λ k a is.
          let down = is_down s t (g.met.B.Blocks.placed on s.now (g.met.B.Blocks.present on told)) c.requires.over.hangs told t.depth k a (omega arith) is in
          let p = place (kind_down t t.depth) t.tag down.index (t.rank + (t.depth - t.depth)) in
          let ne : a ≡ 1 → ⊥ = λ one. leaf_not_root t.dir (t.depth - t.depth) (ap (λ (q : Place). q.kind) ((g.met.B.Blocks.one_place on).each a p super_place down.stands (subst (λ y. s.stands y super_place) (sym one) (g.met.B.Blocks.super_stands on told)))) in
          (g.met.B.Blocks.labelled on a p told ne down.stands).1 ∙ leaf_is t.dir t.depth;
    })

pub returns : goal.returns
returns g c =
    let u = g.B.Blocks.state c.args.after.now in
    let new = c.args.new.now.ways.tree in
    subst (λ (generation : ℕ). u.tells → CanLink u new generation c.args.at c.args.i) (sym (ap (λ (f : Form). f.generation) c.requires.form)) c.may_link.ensures
