use Rattle.std.proofs.Common.{inl, inr, []}
use Rattle.fo_tree_read.proofs.Exits.{looks_none}
use Rattle.fo_files_request.proofs.need.reserve_for.Goals as goal
use Rattle.fo_dirties.proofs.Putting.{dirties_at_once}
use Rattle.fo_dirties.proofs.Dirtied.{dirties_rests}

pub returns-in_default-clause-rests : goal.returns-in_default-clause-rests
returns-in_default-clause-rests g c =
    inl (looks_none (g.B.Blocks.state c.args.on.now))

pub returns-in-Ok-clause-rests : goal.returns-in-Ok-clause-rests
returns-in-Ok-clause-rests g c =
    inr c.reserve_room.ensures.rests

pub returns-in-Err-clause-rests : goal.returns-in-Err-clause-rests
returns-in-Err-clause-rests g c =
    inr c.reserve_room.ensures.rests

pub returns-in_default-clause-dirties : goal.returns-in_default-clause-dirties
returns-in_default-clause-dirties g c = dirties_at_once (g.B.Blocks.state c.args.on.now) []

pub returns-in-Ok-clause-dirties : goal.returns-in-Ok-clause-dirties
returns-in-Ok-clause-dirties g c = (dirties_rests (g.B.Blocks.state c.args.on.now) (g.B.Blocks.state c.reserve_room.new.on) (g.met.B.Blocks.keeps_all c.args.on.now c.reserve_room.new.on c.reserve_room.ensures.keeps) c.reserve_room.ensures.rests)

pub returns-in-Err-clause-dirties : goal.returns-in-Err-clause-dirties
returns-in-Err-clause-dirties g c = (dirties_rests (g.B.Blocks.state c.args.on.now) (g.B.Blocks.state c.reserve_room.new.on) (g.met.B.Blocks.keeps_all c.args.on.now c.reserve_room.new.on c.reserve_room.ensures.keeps) c.reserve_room.ensures.rests)
