use Rattle.fo_files_at.proofs.Joining.{caused_since}
use Rattle.fo_files_spot.proofs.Looking.{looks_after}
use Rattle.fo_files_spot.proofs.spot.spot_for.Goals as goal

pub returns-in-Ok-stands_alone-clause-looks : goal.returns-in-Ok-stands_alone-clause-looks
returns-in-Ok-stands_alone-clause-looks g c =
    let after = looks_after g.B.Blocks.state g.B.Blocks.keeps g.met.B.Blocks.keeps_joins g.met.B.Blocks.keeps_all c.args.on.now in
    after c.room_for.new.on c.stands_alone.new.on (after c.pair_for.new.on c.room_for.new.on c.pair_for.ensures.looks c.room_for.ensures.looks) c.stands_alone.ensures.looks

pub returns-in-Err-stands_alone-clause-looks : goal.returns-in-Err-stands_alone-clause-looks
returns-in-Err-stands_alone-clause-looks g c =
    let after = looks_after g.B.Blocks.state g.B.Blocks.keeps g.met.B.Blocks.keeps_joins g.met.B.Blocks.keeps_all c.args.on.now in
    after c.room_for.new.on c.stands_alone.new.on (after c.pair_for.new.on c.room_for.new.on c.pair_for.ensures.looks c.room_for.ensures.looks) c.stands_alone.ensures.looks

pub returns-in-Err-stands_alone-clause-cause : goal.returns-in-Err-stands_alone-clause-cause
returns-in-Err-stands_alone-clause-cause g c =
    let two = looks_after g.B.Blocks.state g.B.Blocks.keeps g.met.B.Blocks.keeps_joins g.met.B.Blocks.keeps_all c.args.on.now c.pair_for.new.on c.room_for.new.on c.pair_for.ensures.looks c.room_for.ensures.looks in
    caused_since (g.B.Blocks.state c.args.on.now) (g.B.Blocks.state c.room_for.new.on) (g.B.Blocks.state c.stands_alone.new.on) (g.met.B.Blocks.keeps_all c.args.on.now c.room_for.new.on two.1) c.in-Err-stands_alone.why c.in-Err-stands_alone.ensures.cause
