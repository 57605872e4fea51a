use Rattle.std.proofs.Common.{refl, arith}
use Rattle.test_blocks.proofs.Listing.{pairs_none}
use Rattle.test_blocks.proofs.silent.add_pairs.Goals as goal

pub loop-pair-init : goal.loop-pair-init
loop-pair-init c = record { adds = pairs_none c.args.at c.args.on c.args.kind c.args.bytes.now c.args.waits.now.items; room = omega arith; capacity = refl }
