use Rattle.std.proofs.Common.{◌≡◌, List, subst}
use Rattle.fo_tree_look.specs.declared.ways.Kept.{Kept}
use Rattle.fo_tree_look.specs.Source.{Over, leaves_of}
use Rattle.fo_tree_shorten.proofs.behind.cut_ways.Goals as goal

pub returns-clause-over : goal.returns-clause-over
returns-clause-over g c =
    let s = g.B.Blocks.state c.args.on.now in
    let v = g.B.Blocks.state c.cut_behind.new.on in
    let ways = c.args.ways.now in
    subst (λ (k : List Kept). Over s ways.tree k ways.limit → Over v ways.tree k ways.limit) c.deref.ensures.value (c.cut_behind.ensures.over ways.limit) c.requires.over

pub returns-clause-bytes : goal.returns-clause-bytes
returns-clause-bytes g c = λ told.
    let s = g.B.Blocks.state c.args.on.now in
    let v = g.B.Blocks.state c.cut_behind.new.on in
    let ways = c.args.ways.now in
    subst (λ (k : List Kept). (leaves_of v ways.tree k ways.limit).bytes ≡ (leaves_of s ways.tree k ways.limit).bytes) c.deref.ensures.value (c.cut_behind.ensures.bytes told ways.limit)
