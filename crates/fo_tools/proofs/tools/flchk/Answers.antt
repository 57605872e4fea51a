use Rattle.fo_tools.proofs.Checked.{check-ends, check-may_miss}
use Rattle.fo_tools.proofs.tools.flchk.Goals as goal

pub returns-in-Err-clause-ends : goal.returns-in-Err-clause-ends
returns-in-Err-clause-ends g c image vault shows shows_vault =
    rw c.from.ensures (check-ends image vault (g.D.Disk.faults c.args.main.now) (g.D.Disk.faults c.check.new.main) (g.A.Disk.faults c.args.arena.now) (g.A.Disk.faults c.check.new.arena) c.in-Err.e (c.in-Err.ensures.answer image vault shows shows_vault) c.in-Err.ensures.causes.failed)

pub returns-in-Err-clause-only : goal.returns-in-Err-clause-only
returns-in-Err-clause-only g c image vault r shows shows_vault right =
    rw c.from.ensures (check-may_miss (g.D.Disk.faults c.args.main.now) (g.D.Disk.faults c.check.new.main) (g.A.Disk.faults c.args.arena.now) (g.A.Disk.faults c.check.new.arena) c.in-Err.e (c.in-Err.ensures.only image vault r shows shows_vault right) c.in-Err.ensures.causes.failed)
