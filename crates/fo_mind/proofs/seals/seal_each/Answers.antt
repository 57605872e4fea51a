use Rattle.fo_mind.proofs.Sealing.{each_step, seals_on}
use Rattle.fo_mind.proofs.seals.seal_each.Goals as goal

pub loop-at-preserved : goal.loop-at-preserved
loop-at-preserved c = record {
  seals = seals_on c.loop-at.invariant.seals c.seal_one.ensures.seals;
  each = each_step c.loop-at.facts c.seal_one.new.facts c.args.list.now c.loop-at.at-index _ c.loop-at-test.true c.seal_one.ensures.seals c.seal_one.ensures.here c.loop-at.invariant.each;
}
