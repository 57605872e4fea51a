use Rattle.test_blocks.proofs.Apart.{apart_calm, apart_doomed}
use Rattle.test_blocks.proofs.change.put.Goals as goal

pub settle-requires : goal.settle-requires
settle-requires g c =
    let old = c.args.blocks.now in
    let new = c.put_bytes.new.self in
    record { apart = apart_doomed (apart_calm (g.met.B.Blocks.keeps_all old new c.put_bytes.ensures.keeps) c.put_bytes.ensures.calm c.requires.none) }
