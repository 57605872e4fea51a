use Rattle.std.proofs.Common.{sym, subst}
use Rattle.test_blocks.specs.Silent.{Sound, Waiting}
use Rattle.test_blocks.specs.SilentParts.{parts}
use Rattle.test_blocks.proofs.Giving.{sound_pushed, waiting_pushed}
use Rattle.test_blocks.proofs.silent.CarelessBlocks.make.Goals as goal

pub invariant_of-self-clause-sound : goal.invariant_of-self-clause-sound
invariant_of-self-clause-sound c = let self = c.args.self.now in subst (Sound self.count) (sym c.push_reserved.ensures.items) (sound_pushed self.count self.blocks.items c.args.block self.sound c.requires.good)

pub invariant_of-self-clause-waiting : goal.invariant_of-self-clause-waiting
invariant_of-self-clause-waiting c = let self = c.args.self.now in subst (λ z. Waiting z self.waits.items) (sym c.push_reserved.ensures.items) (waiting_pushed (parts self) c.args.block self.waiting)
