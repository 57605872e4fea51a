use Rattle.test_clients.proofs.bytes.bytes_of.Goals as goal

pub get-requires-2-clause-block : goal.get-requires-2-clause-block
get-requires-2-clause-block g c = ((g.met.B.Blocks.keeps_all c.args.on.now c.get.new.self c.get.ensures.keeps).same_blocks c.args.second).1 c.requires.second
