use Rattle.fo_tree.proofs.Looking.{clear_looks}
use Rattle.fo_tree.proofs.calls.SourceBytes.leaf.Goals as goal

pub returns-in_err-at-clause-trimmed : goal.returns-in_err-at-clause-trimmed
returns-in_err-at-clause-trimmed g c = λ clear.
    let looks = c.leaf.ensures.looks in
    clear_looks (g.met.B.Blocks.keeps_all c.args.on.now c.leaf.new.on looks.1) looks.0 c.requires.over clear

pub returns-clause-trimmed : goal.returns-clause-trimmed
returns-clause-trimmed g c = λ clear.
    let looks = c.leaf.ensures.looks in
    clear_looks (g.met.B.Blocks.keeps_all c.args.on.now c.leaf.new.on looks.1) looks.0 c.requires.over clear
