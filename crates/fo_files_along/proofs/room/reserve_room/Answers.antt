use Rattle.std.proofs.Common.{arith}
use Rattle.fo_files_along.proofs.room.reserve_room.Goals as goal

pub reserve-requires : goal.reserve-requires
reserve-requires g c =
    record { apart = λ h. absurd (c.requires.silent h) }

pub returns-in-Ok-clause-had : goal.returns-in-Ok-clause-had
returns-in-Ok-clause-had g c = λ n has.
    let usable = (c.reserve.ensures.rests.settled has.0).1 in
    let was = has.1 in
    let enough = g.met.B.Blocks.enough c.reserve.new.self in
    let room = c.in-Ok.ensures.room.0 in
    omega (arith, usable, was, enough, room)
