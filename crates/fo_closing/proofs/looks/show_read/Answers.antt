use Rattle.fo_closing.proofs.Looking.{bad_read, from_read, good_read}
use Rattle.fo_closing.proofs.looks.show_read.Goals as goal

pub returns-clause-good : goal.returns-clause-good
returns-clause-good g c = good_read (from_read (g.D.Disk.state c.args.main.now).holds c.requires.unseen c.in-Ok.ensures.bytes) c.copy_good.ensures.good

pub returns-clause-bad : goal.returns-clause-bad
returns-clause-bad g c = λ e. (bad_read (from_read (g.D.Disk.state c.args.main.now).holds c.requires.unseen c.in-Ok.ensures.bytes) c.copy_good.ensures.good e, c.copy_good.ensures.same e)
