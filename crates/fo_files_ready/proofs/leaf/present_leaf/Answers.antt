use Rattle.fo_files_ready.proofs.Steps.{unchanged}
use Rattle.fo_files_ready.proofs.leaf.present_leaf.Goals as goal
use Rattle.fo_dirties.proofs.Adding.{adds_more, adds_idle, first_of}
use Rattle.fo_dirties.proofs.Putting.{dirties_looks}
use Rattle.std.proofs.Common.{arith}

pub returns-in-Ok-clause-readied : goal.returns-in-Ok-clause-readied
returns-in-Ok-clause-readied g c =
    let r = c.in-Ok.ensures.readied in (c.args.on.now, r.0, unchanged (g.B.Blocks.state c.args.on.now) c.args.dir, r.1)

pub returns-in-Ok-clause-dirties : goal.returns-in-Ok-clause-dirties
returns-in-Ok-clause-dirties g c = adds_more (omega arith) c.in-Ok.ensures.dirties

pub returns-in-Err-clause-dirties_refused : goal.returns-in-Err-clause-dirties_refused
returns-in-Err-clause-dirties_refused g c = adds_idle 12 first_of (dirties_looks (g.met.B.Blocks.keeps_all c.args.on.now c.leaf_at.new.on c.leaf_at.ensures.keeps) c.in-Err.ensures.nothing)
