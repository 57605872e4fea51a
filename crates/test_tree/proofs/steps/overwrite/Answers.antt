use Rattle.std.proofs.Common.{◌≡◌, ℕ, List, ◌∙◌, ap, subst}
use Rattle.fo_tree_read.specs.declared.tree.Tree.{Tree}
use Rattle.fo_tree_look.specs.declared.ways.Kept.{Kept}
use Rattle.fo_tree_look.specs.Source.{Over}
use Rattle.fo_tree_write.specs.Write.{at_top}
use Rattle.test_tree.proofs.steps.overwrite.Goals as goal

pub returns : goal.returns
returns g c =
    let s = g.B.Blocks.state c.prepare.new.on in
    let m = g.B.Blocks.state c.put_within-ways.new.on in
    let ways = c.prepare.new.self in
    let same = c.prepare.ensures.same in
    let stands = c.requires.stands in
    record {
      over = subst (λ (k : List Kept). Over s ways.tree k ways.limit → Over m (at_top ways.tree c.put_within-ways.result) k ways.limit) c.deref.ensures.value (c.put_within-ways.ensures.over ways.limit) c.prepare.ensures.over;
      plain = ap (λ (y : Tree). y.dir) same.0 ∙ stands.plain;
      rank = ap (λ (y : Tree). y.rank) same.0 ∙ stands.rank;
      wide = same.2 ∙ stands.wide;
    }
