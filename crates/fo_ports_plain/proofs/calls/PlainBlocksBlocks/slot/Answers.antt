use Rattle.std.proofs.Common.{◌<◌, arith}
use Rattle.fo_ports.specs.Blocks.{slot_count}
use Rattle.fo_ports_plain.specs.Plain.{label_at}
use Rattle.fo_ports_plain.proofs.Comes.{few_slots}
use Rattle.fo_ports_plain.proofs.calls.PlainBlocksBlocks.slot.Goals as goal

pub bounds-block-i : goal.bounds-block-i
bounds-block-i c =
    let few : c.args.i < slot_count (label_at c.args.self.now.blocks.items c.args.self.now.made c.args.at).kind = c.requires.slots in
    let most = few_slots (label_at c.args.self.now.blocks.items c.args.self.now.made c.args.at).kind in
    omega (arith, few, most)
