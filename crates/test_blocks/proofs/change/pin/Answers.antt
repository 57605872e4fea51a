use Rattle.test_blocks.proofs.Causing.{of_get, still_stands, rested_so, stands_so}
use Rattle.test_blocks.proofs.change.pin.Goals as goal

pub get-requires-clause-place : goal.get-requires-clause-place
get-requires-clause-place g c =
    let old = c.args.blocks.now in
    let mid = c.reserve.new.self in
    rested_so (g.B.Blocks.state old) (g.B.Blocks.state mid) c.args.at c.args.rank (g.met.B.Blocks.active old).0 c.requires.stands (g.met.B.Blocks.keeps_all old mid c.reserve.ensures.keeps) c.reserve.ensures.rests (g.met.B.Blocks.one_place mid)

pub returns-in-Err-get-clause-cause : goal.returns-in-Err-get-clause-cause
returns-in-Err-get-clause-cause g c =
    let old = c.args.blocks.now in
    let mid = c.reserve.new.self in
    let s = g.B.Blocks.state old in
    let t = g.B.Blocks.state mid in
    of_get c.in-Err-get.e s t (g.B.Blocks.state c.get.new.self) c.args.at (g.met.B.Blocks.keeps_all old mid c.reserve.ensures.keeps) (still_stands s t c.args.at c.args.rank (g.met.B.Blocks.active old).0 c.requires.stands c.reserve.ensures.rests) c.in-Err-get.ensures.cause

pub returns-clause-stands : goal.returns-clause-stands
returns-clause-stands g c =
    let old = c.args.blocks.now in
    let mid = c.reserve.new.self in
    let new = c.get.new.self in
    let s = g.B.Blocks.state old in
    let t = g.B.Blocks.state mid in
    let u = g.B.Blocks.state new in
    stands_so s t u c.args.at c.args.rank (g.met.B.Blocks.active old).0 (λ h. g.met.B.Blocks.one_stays old h) (λ told x ne r. (g.met.B.Blocks.live old x told ne r).2) c.requires.stands (g.met.B.Blocks.keeps_all old mid c.reserve.ensures.keeps) c.reserve.ensures.rests (g.met.B.Blocks.keeps_all mid new c.get.ensures.keeps) c.get.ensures.looks (g.met.B.Blocks.one_place new)
