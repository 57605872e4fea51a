use Rattle.fo_files_into.proofs.change.cut_given.Goals as goal
use Rattle.fo_dirties.proofs.Adding.{adds_idle, first_of}
use Rattle.fo_dirties.proofs.Putting.{dirties_at_once}
use Rattle.std.proofs.Common.{[]}

pub returns-in-None-clause-dirties : goal.returns-in-None-clause-dirties
returns-in-None-clause-dirties g c = adds_idle 18 first_of (dirties_at_once (g.B.Blocks.state c.args.on.now) [])
