use Rattle.std.proofs.Common.{arith}
use Rattle.fo_check_names.specs.Names.{slot_of, leaf_of}
use Rattle.fo_check_names.proofs.Orders.{twice_here}
use Rattle.fo_check_names.proofs.names.repeated_pair.Goals as goal

pub returns-then-named-i : goal.returns-then-named-i
returns-then-named-i c = twice_here slot_of leaf_of c.args.named.now c.loop-i.i c.index-named-i.result c.index-named-i-in-loop-i.result c.index-named-i-then-named-i.result (omega arith) (omega (arith, c.loop-i-test.true)) c.if-named-i.true
