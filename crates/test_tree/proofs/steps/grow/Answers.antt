use Rattle.std.proofs.Common.{◌≡◌, ◌+◌, ◌*◌, ◌≤◌, List, inr, ⊎_elim, sym, ◌∙◌, ap, subst, arith}
use Rattle.fo_image.specs.declared.types.Pointer.TheVariants.{Nil, Local}
use Rattle.fo_ports.specs.Sources.{ComesFor}
use Rattle.fo_tree_read.specs.declared.tree.Tree.{Tree}
use Rattle.fo_tree_look.specs.declared.ways.Kept.{Kept}
use Rattle.fo_tree_look.specs.Source.{Over}
use Rattle.fo_tree_down.specs.Clear.{EndsClear}
use Rattle.fo_tree_lift.specs.Owns.{with_leaf}
use Rattle.test_tree.proofs.Grounds.{root_kept}
use Rattle.test_tree.proofs.steps.grow.Goals as goal

pub returns-clause-rig : goal.returns-clause-rig
returns-clause-rig g c =
    let s = g.B.Blocks.state c.args.on.now in
    let m = g.B.Blocks.state c.own_leaf-current.new.on in
    let ways = c.args.ways.now in
    let t = ways.tree in
    let i = c.args.i in
    let own = c.own_leaf-current.ensures in
    let top = c.own_leaf-current.result.top in
    let is = c.grown_tree-ways.ensures in
    let stands = c.requires.rig.stands in
    let few = c.requires.few in
    let past = c.requires.past in
    let wide = stands.wide in
    let le : 8192 * (i + 1) ≤ ways.limit = omega (arith, few, wide) in
    let over : Over m (with_leaf t i top) ways.kept.items ways.limit = subst (λ (k : List Kept). Over s t k ways.limit → Over m (with_leaf t i top) k ways.limit) c.deref.ensures.value (own.over ways.limit le) stands.over in
    let clear : EndsClear m (with_leaf t i top) ways.kept.items = subst (λ (k : List Kept). EndsClear s t k → EndsClear m (with_leaf t i top) k) c.deref.ensures.value (own.clear (inr (omega (arith, past)))) c.requires.rig.clear in
    record {
      stands = record {
        over = subst (λ (y : Tree). Over m y ways.kept.items ways.limit) (sym is) over;
        plain = ap (λ (y : Tree). y.dir) is ∙ stands.plain;
        rank = ap (λ (y : Tree). y.rank) is ∙ stands.rank;
        wide = stands.wide;
      };
      clear = subst (λ (y : Tree). EndsClear m y ways.kept.items) (sym is) clear;
    }

pub returns-clause-apart : goal.returns-clause-apart
returns-clause-apart g c = λ told a.
    let m = g.B.Blocks.state c.own_leaf-current.new.on in
    let ways = c.args.ways.now in
    let own = c.own_leaf-current.ensures in
    let is = c.grown_tree-ways.ensures in
    record {
      generation = a.generation;
      tag = ap (λ (y : Tree). y.tag) is ∙ a.tag;
      comes = subst (λ (y : Tree). ComesFor m y.top Nil) (sym is) (own.top.comes told Nil a.comes);
      only = λ y x h. subst (λ (z : Tree). z.top ≡ Local y) (sym is) (⊎_elim (λ e. ap Local (sym e)) (λ old. absurd (old.1 (a.only y x old.0))) (own.top.only told y x h));
      begun = root_kept (c.ground.ensures told) (own.changes ways.generation ways.limit) a.tag (g.met.B.Blocks.keeps_all c.args.on.now c.own_leaf-current.new.on own.keeps) a.begun;
    }
