use Rattle.fo_mind.specs.MindParts.{parts}
use Rattle.fo_mind.proofs.Landing.{keeps_turn}
use Rattle.fo_mind.proofs.Results.{on_ok}
use Rattle.fo_mind.proofs.mind.Mind.keep_turn_of.Goals as goal

pub returns-clause-kept : goal.returns-clause-kept
returns-clause-kept c = keeps_turn c.keep_turn.result (parts c.args.self.now) (parts c.keep_turn.new.self) c.keep_turn.ensures.kept c.keep_turn.ensures.err

pub returns-clause-ok : goal.returns-clause-ok
returns-clause-ok c = on_ok c.keep_turn.result (λ h _. h) c.keep_turn.ensures.ok
