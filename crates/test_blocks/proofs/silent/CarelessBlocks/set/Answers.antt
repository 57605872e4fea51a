use Rattle.test_blocks.proofs.Updating.{sound_kept, waiting_kept}
use Rattle.test_blocks.proofs.silent.CarelessBlocks.set.Goals as goal

pub invariant_of-self-clause-sound : goal.invariant_of-self-clause-sound
invariant_of-self-clause-sound c = sound_kept c.args.self.now.sound c.set_block.ensures.updates c.set_block.ensures.size.0 c.requires.good

pub invariant_of-self-clause-waiting : goal.invariant_of-self-clause-waiting
invariant_of-self-clause-waiting c = waiting_kept c.args.self.now.waiting c.set_block.ensures.updates c.requires.used
