use Rattle.std.proofs.Common.{arith}
use Rattle.std.proofs.lemmas.Grind.{common_steps}
use Rattle.nine_fields.specs.Field.{QidFits}
use Rattle.nine_fields.proofs.Each.{all_more}
use Rattle.nine_fields.proofs.writing.put_ids.Goals as goal

pub loop-qid-preserved : goal.loop-qid-preserved
loop-qid-preserved c = record {
  written = grind (arith, common_steps);
  fit = all_more QidFits c.args.qids.now c.loop-qid.qid-index _ c.loop-qid-test.true c.loop-qid.invariant.fit c.put_qid.ensures.fits;
}
