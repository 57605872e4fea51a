use Rattle.fo_dir_read.proofs.Pairs.{taken_more}
use Rattle.fo_dir_read.proofs.entries.free_in.Goals as goal

pub loop-p-preserved : goal.loop-p-preserved
loop-p-preserved g c = taken_more c.loop-p.invariant (c.is_pair_taken.ensures.0 c.if-not-is_pair_taken.false)
