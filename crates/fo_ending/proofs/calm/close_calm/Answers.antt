use Rattle.std.proofs.Common.{sym, ◌∙◌}
use Rattle.fo_closing.proofs.Taking.{closings_looked, closings_once}
use Rattle.fo_ending.proofs.Stepping.{fault_of, less_going, over_turned, quiet_turned, region_turned}
use Rattle.fo_ending.proofs.calm.close_calm.Goals as goal

pub returns-in-Ok-clause-over : goal.returns-in-Ok-clause-over
returns-in-Ok-clause-over g c = λ e. over_turned (g.D.Disk.state c.args.main.now).holds c.in-Ok.answer _ _ _ _ c.in-Ok.ensures.turned (sym c.is_end.ensures ∙ e)

pub returns-in-Ok-clause-calm : goal.returns-in-Ok-clause-calm
returns-in-Ok-clause-calm g c = λ e. quiet_turned (g.D.Disk.state c.args.main.now).holds c.in-Ok.answer _ _ _ _ c.in-Ok.ensures.turned (sym c.is_end.ensures ∙ e) c.requires.quiet

pub returns-in-Ok-clause-same : goal.returns-in-Ok-clause-same
returns-in-Ok-clause-same g c = λ e. region_turned (g.D.Disk.state c.args.main.now).holds c.in-Ok.answer _ _ _ _ c.in-Ok.ensures.turned (sym c.is_end.ensures ∙ e)

pub returns-in-Ok-clause-less : goal.returns-in-Ok-clause-less
returns-in-Ok-clause-less g c = λ e. less_going (g.D.Disk.state c.args.main.now).holds c.in-Ok.answer _ _ _ _ c.in-Ok.ensures.turned (sym c.is_end.ensures ∙ e)

pub returns-in-Ok-clause-closes : goal.returns-in-Ok-clause-closes
returns-in-Ok-clause-closes g c = closings_once (g.D.Disk.state c.args.main.now).holds c.in-Ok.answer _ _ _ _ c.in-Ok.ensures.turned

pub returns-in-Err-clause-closes : goal.returns-in-Err-clause-closes
returns-in-Err-clause-closes g c = closings_looked c.in-Err.ensures.refused.0 c.in-Err.ensures.refused.1

pub returns-in-Err-clause-failed : goal.returns-in-Err-clause-failed
returns-in-Err-clause-failed g c = fault_of c.in-Err.e c.in-Err.ensures.failed
