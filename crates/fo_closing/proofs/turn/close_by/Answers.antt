use Rattle.fo_mind.specs.MindParts.{parts}
use Rattle.fo_closing.specs.Closed.{with_turn}
use Rattle.fo_closing.proofs.Resting.{one_turn, turns_stay}
use Rattle.fo_closing.proofs.turn.close_by.Goals as goal

pub returns-then-quiet-clause-closed : goal.returns-then-quiet-clause-closed
returns-then-quiet-clause-closed c = λ disk faults. (with_turn (parts c.args.mind.now disk faults), one_turn _, c.close_first.ensures.closed disk faults)

pub returns-else-quiet-clause-closed : goal.returns-else-quiet-clause-closed
returns-else-quiet-clause-closed c = λ disk faults. (parts c.args.mind.now disk faults, turns_stay _, c.close.ensures.closed disk faults)
