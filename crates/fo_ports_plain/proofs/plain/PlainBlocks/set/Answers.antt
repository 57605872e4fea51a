use Rattle.std.proofs.Common.{◌+◌, ◌^◌, ◌<◌, ◌≤◌, length, arith}
use Rattle.fo_ports_plain.proofs.plain.PlainBlocks.set.Goals as goal

pub invariant_of-self-clause-sound : goal.invariant_of-self-clause-sound
invariant_of-self-clause-sound c = (c.requires.well _ c.set_block.ensures).sound

pub invariant_of-self-clause-formed : goal.invariant_of-self-clause-formed
invariant_of-self-clause-formed c = (c.requires.well _ c.set_block.ensures).formed

pub invariant_of-self-clause-waiting : goal.invariant_of-self-clause-waiting
invariant_of-self-clause-waiting c = (c.requires.well _ c.set_block.ensures).waiting

pub invariant_of-self-clause-queue : goal.invariant_of-self-clause-queue
invariant_of-self-clause-queue c = (c.requires.well _ c.set_block.ensures).queue

pub invariant_of-self-clause-few : goal.invariant_of-self-clause-few
invariant_of-self-clause-few c =
    let few : length c.args.self.now.blocks.items < 2 ^ 32 = c.args.self.now.few in
    let as_long = c.set_block.ensures.as_long in
    omega (arith, few, as_long)

pub invariant_of-self-clause-spared : goal.invariant_of-self-clause-spared
invariant_of-self-clause-spared c =
    let spared : c.args.self.now.made + c.args.self.now.spare ≤ length c.args.self.now.blocks.items = c.args.self.now.spared in
    let as_long = c.set_block.ensures.as_long in
    omega (arith, spared, as_long)
