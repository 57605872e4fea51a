use Rattle.std.proofs.Common.{◌∙◌, sym, rules}
use Rattle.fo_reserving.proofs.Calming.{none_left}
use Rattle.fo_ending.proofs.drain.is_empty.Goals as goal

pub returns-clause-none : goal.returns-clause-none
returns-clause-none g c = λ e. none_left c.args.cache.now.mind.queue.removals (sym c.queued.ensures ∙ (search rules))
