use Rattle.std.proofs.Common.{arith, ◌∙◌}
use Rattle.fo_format.proofs.LabelBlocks.{one_more}
use Rattle.fo_format.proofs.labels.write_labels.Goals as goal

pub loop-at-preserved : goal.loop-at-preserved
loop-at-preserved g c = record {
  size = c.write.ensures.size ∙ c.loop-at.invariant.size;
  long = c.fill_labels.ensures.whole;
  later = omega (arith, c.write.ensures.cause.later, c.loop-at.invariant.later);
  labels = one_more c.loop-at.invariant.labels (omega arith) c.fill_labels.ensures c.in_ok-write.ensures.latest;
  sure = λ sure. c.in_ok-write.ensures.sure (c.loop-at.invariant.sure sure);
}
