use Rattle.std.proofs.Common.{◌∙◌, sym}
use Rattle.fo_vacput.proofs.Roots.{prev_none, prev_some}
use Rattle.fo_vacput.proofs.root.prev_at.Goals as goal

pub returns-then-is_zero : goal.returns-then-is_zero
returns-then-is_zero c = λ prev holds e. prev_none prev c.args.bytes.now (sym c.is_zero.ensures ∙ c.if-is_zero.true) c.requires holds e

pub returns-else-is_zero : goal.returns-else-is_zero
returns-else-is_zero c = λ prev holds e. prev_some prev c.args.bytes.now c.score_at.result (sym c.is_zero.ensures ∙ c.if-is_zero.false) c.score_at.ensures c.requires e
