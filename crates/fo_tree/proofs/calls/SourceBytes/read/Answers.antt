use Rattle.fo_tree.proofs.Looking.{clear_looks}
use Rattle.fo_tree.proofs.calls.SourceBytes.read.Goals as goal

pub returns-in_err-count-clause-trimmed : goal.returns-in_err-count-clause-trimmed
returns-in_err-count-clause-trimmed g c = λ clear.
    let looks = c.read.ensures.looks in
    clear_looks (g.met.B.Blocks.keeps_all c.args.on.now c.read.new.on looks.1) looks.0 c.requires.over clear

pub returns-clause-trimmed : goal.returns-clause-trimmed
returns-clause-trimmed g c = λ clear.
    let looks = c.read.ensures.looks in
    clear_looks (g.met.B.Blocks.keeps_all c.args.on.now c.read.new.on looks.1) looks.0 c.requires.over clear
