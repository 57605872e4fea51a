use Rattle.std.proofs.Common.{inr, sym, ◌∙◌}
use Rattle.fo_closing.specs.of_mind.MindParts.{parts}
use Rattle.fo_reserving.proofs.Calming.{none_left}
use Rattle.fo_reserving.proofs.Joining.{reserves_none}
use Rattle.fo_reserving.proofs.closing.close_until_usable.Goals as goal

pub returns-then-queued-eq0-clause-leaves : goal.returns-then-queued-eq0-clause-leaves
returns-then-queued-eq0-clause-leaves g c = reserves_none (parts c.args.cache.now.mind (g.D.Disk.state c.args.cache.now.main).holds (g.D.Disk.faults c.args.cache.now.main))

pub returns-then-queued-eq0-clause-over : goal.returns-then-queued-eq0-clause-over
returns-then-queued-eq0-clause-over g c = inr (none_left c.args.cache.now.mind.queue.removals (sym c.queued.ensures ∙ c.if-queued-eq0.true))
