use Rattle.fo_files_cut.proofs.cut.cut_data.Goals as goal
use Rattle.fo_dirties.proofs.Adding.{adds_idle, first_of}
use Rattle.fo_dirties.proofs.Putting.{dirties_at_once}
use Rattle.std.proofs.Common.{[]}

pub returns-then-len-gt-FILE_LIMIT-clause-dirties : goal.returns-then-len-gt-FILE_LIMIT-clause-dirties
returns-then-len-gt-FILE_LIMIT-clause-dirties g c = adds_idle 18 first_of (dirties_at_once (g.B.Blocks.state c.args.on.now) [])

pub returns-in-Err-clause-dirties : goal.returns-in-Err-clause-dirties
returns-in-Err-clause-dirties g c = adds_idle 18 first_of (dirties_at_once (g.B.Blocks.state c.args.on.now) [])
