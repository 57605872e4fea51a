use Rattle.std.proofs.Common.{◌≡◌, List, subst}
use Rattle.fo_tree_look.specs.declared.ways.Kept.{Kept}
use Rattle.fo_tree_look.specs.Source.{Over, leaves_of}
use Rattle.fo_tree_link.specs.of_tree_down.Way.{with_top}
use Rattle.fo_tree_shorten.proofs.behind.own_ways.Goals as goal

pub returns-clause-over : goal.returns-clause-over
returns-clause-over g c =
    let s = g.B.Blocks.state c.args.on.now in
    let m = g.B.Blocks.state c.own_end-top.new.on in
    let ways = c.args.ways.now in
    let top = c.own_end-top.result in
    subst (λ (k : List Kept). Over s ways.tree k ways.limit → Over m (with_top ways.tree top) k ways.limit) c.deref.ensures.value (c.own_end-top.ensures.over ways.limit) c.requires.over

pub returns-clause-bytes : goal.returns-clause-bytes
returns-clause-bytes g c = λ told.
    let s = g.B.Blocks.state c.args.on.now in
    let m = g.B.Blocks.state c.own_end-top.new.on in
    let ways = c.args.ways.now in
    let top = c.own_end-top.result in
    subst (λ (k : List Kept). (leaves_of m (with_top ways.tree top) k ways.limit).bytes ≡ (leaves_of s ways.tree k ways.limit).bytes) c.deref.ensures.value (c.own_end-top.ensures.bytes told ways.limit)
