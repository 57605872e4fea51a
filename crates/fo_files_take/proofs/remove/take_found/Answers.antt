use Rattle.std.proofs.Common.{◌-◌, length, inl, inr, sym, subst, arith}
use Rattle.fo_tree_read.proofs.Exits.{looks_none}
use Rattle.fo_world.specs.Answers.{HasCause}
use Rattle.fo_world.specs.Step.{give}
use Rattle.fo_files_along.proofs.of_files_at.Ways.{way_stays}
use Rattle.fo_files_along.specs.of_files_look.Told.{faults_of}
use Rattle.fo_files_along.specs.Along.{HasRoom, IsBlocks}
use Rattle.fo_files_along.proofs.Refusing.{blocks_are, blocks_cause}
use Rattle.fo_files_take.proofs.remove.take_found.Goals as goal
use Rattle.fo_dirties.proofs.Adding.{dirties_none, dirties_first}
use Rattle.fo_dirties.proofs.Dirtied.{dirties_rests}

pub take_along-requires-clause-silent : goal.take_along-requires-clause-silent
take_along-requires-clause-silent g c =
    λ h. c.requires.silent ((g.met.B.Blocks.keeps_all c.args.on.now c.reserve_room.new.on c.reserve_room.ensures.keeps).still_tells.0 h)

pub take_along-requires-clause-found : goal.take_along-requires-clause-found
take_along-requires-clause-found g c =
    let f = c.requires.found in
    record {
      way = way_stays (g.B.Blocks.state c.args.on.now) (g.B.Blocks.state c.reserve_room.new.on) c.args.root c.args.trail.now c.args.found.now.way (g.met.B.Blocks.keeps_all c.args.on.now c.reserve_room.new.on c.reserve_room.ensures.keeps) f.way;
      last = f.last;
      last_is = f.last_is;
      own_is = f.own_is;
      holds = f.holds;
      of_root = f.of_root;
    }

pub returns-in-Err-clause-left : goal.returns-in-Err-clause-left
returns-in-Err-clause-left g c = (c.reserve_room.new.on, inr c.reserve_room.ensures.rests, inl (looks_none (g.B.Blocks.state c.reserve_room.new.on)))

pub returns-in-Ok-take_along-clause-takes : goal.returns-in-Ok-take_along-clause-takes
returns-in-Ok-take_along-clause-takes g c = (c.reserve_room.new.on, c.reserve_room.ensures.rests, c.in-Ok-take_along.ensures.takes)

pub returns-in-Err-take_along-clause-left : goal.returns-in-Err-take_along-clause-left
returns-in-Err-take_along-clause-left g c = (c.reserve_room.new.on, inr c.reserve_room.ensures.rests, c.in-Err-take_along.ensures.left)

pub returns-in-Ok-take_along-clause-room : goal.returns-in-Ok-take_along-clause-room
returns-in-Ok-take_along-clause-room g c = λ n has.
    let still = c.reserve_room.ensures.rests.settled has.0 in
    let usable = still.1 in
    let was = has.1 in
    let enough = g.met.B.Blocks.enough c.reserve_room.new.on in
    let room = c.in-Ok.ensures.room.0 in
    let asked = c.blocks_for.ensures in
    omega (arith, usable, was, enough, room, asked)

pub returns-in-Ok-take_along-clause-taken : goal.returns-in-Ok-take_along-clause-taken
returns-in-Ok-take_along-clause-taken g c = let a = c.reserve_room.ensures.usable in let b = c.take_along.ensures.taken in omega (arith, a, b)

pub returns-in-Err-take_along-clause-taken : goal.returns-in-Err-take_along-clause-taken
returns-in-Err-take_along-clause-taken g c = let a = c.reserve_room.ensures.usable in let b = c.take_along.ensures.taken in omega (arith, a, b)

pub returns-in-Err-take_along-clause-refused : goal.returns-in-Err-take_along-clause-refused
returns-in-Err-take_along-clause-refused g c = subst (λ e. IsBlocks e) (sym c.file_error.ensures) (blocks_are c.in-Err-take_along.why)

pub returns-in-Err-take_along-clause-cause : goal.returns-in-Err-take_along-clause-cause
returns-in-Err-take_along-clause-cause g c =
    subst (λ e. HasCause (faults_of (g.B.Blocks.state c.args.on.now)) (faults_of (g.B.Blocks.state c.take_along.new.on)) ⊥ (HasRoom (g.B.Blocks.state c.take_along.new.on)) (give (length c.args.trail.now - 1)) e) (sym c.file_error.ensures) (blocks_cause (g.B.Blocks.state c.args.on.now) (g.B.Blocks.state c.reserve_room.new.on) (g.B.Blocks.state c.take_along.new.on) (give (length c.args.trail.now - 1)) _ (g.met.B.Blocks.keeps_all c.args.on.now c.reserve_room.new.on c.reserve_room.ensures.keeps) c.in-Err-take_along.why c.in-Err-take_along.ensures.cause)

pub returns-in-Ok-take_along-clause-keeps : goal.returns-in-Ok-take_along-clause-keeps
returns-in-Ok-take_along-clause-keeps g c = g.met.B.Blocks.keeps_joins c.args.on.now c.reserve_room.new.on c.take_along.new.on c.reserve_room.ensures.keeps c.take_along.ensures.keeps

pub returns-in-Err-take_along-clause-keeps : goal.returns-in-Err-take_along-clause-keeps
returns-in-Err-take_along-clause-keeps g c = g.met.B.Blocks.keeps_joins c.args.on.now c.reserve_room.new.on c.take_along.new.on c.reserve_room.ensures.keeps c.take_along.ensures.keeps

pub returns-in-Err-clause-dirties : goal.returns-in-Err-clause-dirties
returns-in-Err-clause-dirties g c = dirties_none _ (dirties_rests (g.B.Blocks.state c.args.on.now) (g.B.Blocks.state c.reserve_room.new.on) (g.met.B.Blocks.keeps_all c.args.on.now c.reserve_room.new.on c.reserve_room.ensures.keeps) c.reserve_room.ensures.rests)

pub returns-in-Ok-take_along-clause-dirties : goal.returns-in-Ok-take_along-clause-dirties
returns-in-Ok-take_along-clause-dirties g c = dirties_first (dirties_rests (g.B.Blocks.state c.args.on.now) (g.B.Blocks.state c.reserve_room.new.on) (g.met.B.Blocks.keeps_all c.args.on.now c.reserve_room.new.on c.reserve_room.ensures.keeps) c.reserve_room.ensures.rests) c.take_along.ensures.dirties

pub returns-in-Err-take_along-clause-dirties : goal.returns-in-Err-take_along-clause-dirties
returns-in-Err-take_along-clause-dirties g c = dirties_first (dirties_rests (g.B.Blocks.state c.args.on.now) (g.B.Blocks.state c.reserve_room.new.on) (g.met.B.Blocks.keeps_all c.args.on.now c.reserve_room.new.on c.reserve_room.ensures.keeps) c.reserve_room.ensures.rests) c.take_along.ensures.dirties
