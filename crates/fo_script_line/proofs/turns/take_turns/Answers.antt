use Rattle.std.proofs.Common.{arith}
use Rattle.fo_script_line.proofs.Letting.{not_fewer_then, not_fewer_same}
use Rattle.fo_script_line.proofs.Turning.{turning_starts, turning_more, turning_answers, turning_ends}
use Rattle.fo_script_line.proofs.turns.take_turns.Goals as goal

pub turns-init : goal.turns-init
turns-init g c = record { turning = turning_starts _ _ _; later = not_fewer_same _ }

pub turns-preserved : goal.turns-preserved
turns-preserved g c = record { turning = turning_more _ _ _ _ _ _ _ _ c.turns.invariant.turning (rw c.in-Turn.is at c.take_turn.ensures.takes); later = not_fewer_then _ _ _ c.turns.invariant.later c.take_turn.ensures.later }

pub returns-in-Says-clause-takes : goal.returns-in-Says-clause-takes
returns-in-Says-clause-takes g c = turning_answers _ _ _ _ _ _ _ _ c.turns.invariant.turning (rw c.in-Says.is at c.take_turn.ensures.takes)

pub returns-in-Says-clause-later : goal.returns-in-Says-clause-later
returns-in-Says-clause-later g c = not_fewer_then _ _ _ c.turns.invariant.later c.take_turn.ensures.later

pub returns-clause-takes : goal.returns-clause-takes
returns-clause-takes g c = turning_ends _ _ _ _ _ c.turns.counter (omega arith) c.turns.invariant.turning
