use Rattle.std.proofs.Common.{◌∙◌, arith}
use Rattle.fo_vacput.proofs.Tails.{next_written, last_written}
use Rattle.fo_vacput.proofs.truncation.fill_with_scores.Goals as goal

pub loop-into-preserved : goal.loop-into-preserved
loop-into-preserved c = (
  omega arith,
  next_written c.loop-into.into c.put-at.new.into c.loop-into.at c.put-at.result c.put-at.ensures.next c.put-at.ensures.front c.put-at.auto.into c.loop-into-test.true ∙ c.loop-into.invariant.1,
)

pub returns : goal.returns
returns c = c.fill_with_zeros.ensures ∙ last_written c.loop-into.into c.loop-into.at c.loop-into-test.false ∙ c.loop-into.invariant.1
