use Rattle.std.proofs.Common.{arith}
use Rattle.fo_check_names.specs.declared.names.Number.{Number}
use Rattle.fo_check_names.specs.Names.{number_of, holder_of}
use Rattle.fo_check_names.proofs.Orders.{twice_here}
use Rattle.fo_check_names.proofs.names.repeated_number.Goals as goal

abbrev none : Number
none = record { number = 0; leaf = 0 }

pub returns-then-found-i : goal.returns-then-found-i
returns-then-found-i c = twice_here number_of holder_of c.args.found.now c.loop-i.i none none none (omega arith) (omega (arith, c.loop-i-test.true)) c.if-found-i.true
