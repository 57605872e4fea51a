use Rattle.std.proofs.Common.{List, inr, ⊎_elim, subst, arith}
use Rattle.fo_image.specs.declared.types.Pointer.TheVariants.{Nil}
use Rattle.fo_tree_look.specs.declared.ways.Kept.{Kept}
use Rattle.fo_tree_look.specs.Source.{Over}
use Rattle.fo_tree_down.specs.Clear.{EndsClear}
use Rattle.fo_tree_write.specs.Write.{at_top}
use Rattle.test_tree.proofs.Grounds.{root_kept}
use Rattle.test_tree.proofs.steps.put_last.Goals as goal

pub returns-clause-rig : goal.returns-clause-rig
returns-clause-rig g c =
    let s = g.B.Blocks.state c.args.on.now in
    let m = g.B.Blocks.state c.put_within-ways.new.on in
    let ways = c.args.ways.now in
    let t = ways.tree in
    let put = c.put_within-ways.ensures in
    let top = c.put_within-ways.result in
    let stands = c.requires.rig.stands in
    let some = c.requires.some in
    record {
      stands = record {
        over = subst (λ (k : List Kept). Over s t k ways.limit → Over m (at_top t top) k ways.limit) c.deref.ensures.value (put.over ways.limit) stands.over;
        plain = stands.plain;
        rank = stands.rank;
        wide = stands.wide;
      };
      clear = subst (λ (k : List Kept). EndsClear s t k → EndsClear m (at_top t top) k) c.deref.ensures.value (put.clear (inr (omega (arith, some)))) c.requires.rig.clear;
    }

pub returns-clause-apart : goal.returns-clause-apart
returns-clause-apart g c = λ told a.
    let put = c.put_within-ways.ensures in
    record {
      generation = a.generation;
      tag = a.tag;
      comes = put.comes told Nil a.comes;
      only = λ y x h. ⊎_elim (λ e. e) (λ old. absurd (old.1 (a.only y x old.0))) (put.only told y x h);
      begun = root_kept (c.ground.ensures told) put.changes a.tag (g.met.B.Blocks.keeps_all c.args.on.now c.put_within-ways.new.on put.keeps) a.begun;
    }
