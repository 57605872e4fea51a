use Rattle.std.proofs.Common.{refl, ap}
use Rattle.fo_settling.proofs.Waiting.{none_waits}
use Rattle.fo_turning.proofs.flush.clear_next.Goals as goal

pub returns-in_default-clause-does : goal.returns-in_default-clause-does
returns-in_default-clause-does g c = let mind = c.args.cache.now.mind in (refl, refl, record { quiet = c.requires.quiet; certain = c.requires.certain; none = none_waits mind.order mind.clears.items c.requires.quiet c.in_default.ensures })

pub returns-clause-does : goal.returns-clause-does
returns-clause-does g c = record { quiet = c.requires.quiet; certain = c.requires.certain; same = ap g.D.Disk.state c.clear_due.ensures.device; fewer = c.clear_due.ensures.fewer }
