use Rattle.std.proofs.Common.{◌-◌, length, inl, sym, subst, arith}
use Rattle.fo_tree_read.proofs.Exits.{looks_none}
use Rattle.fo_world.specs.Answers.{HasCause}
use Rattle.fo_world.specs.Step.{need}
use Rattle.fo_files_into.proofs.of_files_at.Ways.{way_stays}
use Rattle.fo_files_into.specs.of_files_look.Told.{faults_of}
use Rattle.fo_files_into.specs.of_files_along.Along.{HasRoom, IsBlocks}
use Rattle.fo_files_into.proofs.of_files_along.Refusing.{blocks_are, blocks_cause}
use Rattle.fo_files_request.proofs.write.write_found.Goals as goal
use Rattle.fo_dirties.proofs.Adding.{dirties_none, dirties_first}

pub write_along-requires-clause-silent : goal.write_along-requires-clause-silent
write_along-requires-clause-silent g c =
    λ h. c.requires.silent ((g.met.B.Blocks.keeps_all c.args.on.now c.reserve_for.new.on c.reserve_for.ensures.keeps).still_tells.0 h)

pub write_along-requires-clause-way : goal.write_along-requires-clause-way
write_along-requires-clause-way g c =
    way_stays (g.B.Blocks.state c.args.on.now) (g.B.Blocks.state c.reserve_for.new.on) c.args.root c.args.trail.now c.args.found.now.way (g.met.B.Blocks.keeps_all c.args.on.now c.reserve_for.new.on c.reserve_for.ensures.keeps) c.requires.way

pub returns-in-Err-clause-left : goal.returns-in-Err-clause-left
returns-in-Err-clause-left g c =
    (c.reserve_for.new.on, c.reserve_for.ensures.rests, inl (looks_none (g.B.Blocks.state c.reserve_for.new.on)))

pub returns-in-Ok-write_along-clause-puts : goal.returns-in-Ok-write_along-clause-puts
returns-in-Ok-write_along-clause-puts g c =
    (c.reserve_for.new.on, c.in-Ok.ensures.granted, c.in-Ok-write_along.ensures.puts)

pub returns-in-Err-write_along-clause-left : goal.returns-in-Err-write_along-clause-left
returns-in-Err-write_along-clause-left g c =
    (c.reserve_for.new.on, c.reserve_for.ensures.rests, c.in-Err-write_along.ensures.left)

pub returns-in-Ok-write_along-clause-room : goal.returns-in-Ok-write_along-clause-room
returns-in-Ok-write_along-clause-room g c =
    λ n has.
    let still = c.in-Ok.ensures.granted.settled has.0 in
    let usable = still.1 in
    let was = has.1 in
    let enough = g.met.B.Blocks.enough c.reserve_for.new.on in
    let room = c.in-Ok.ensures.room.0 in
    omega (arith, usable, was, enough, room)

pub returns-in-Ok-write_along-clause-taken : goal.returns-in-Ok-write_along-clause-taken
returns-in-Ok-write_along-clause-taken g c =
    let a = c.reserve_for.ensures.usable in let b = c.write_along.ensures.taken in omega (arith, a, b)

pub returns-in-Err-write_along-clause-taken : goal.returns-in-Err-write_along-clause-taken
returns-in-Err-write_along-clause-taken g c =
    let a = c.reserve_for.ensures.usable in let b = c.write_along.ensures.taken in omega (arith, a, b)

pub returns-in-Err-write_along-clause-refused : goal.returns-in-Err-write_along-clause-refused
returns-in-Err-write_along-clause-refused g c =
    subst (λ e. IsBlocks e) (sym c.file_error.ensures) (blocks_are c.in-Err-write_along.why)

pub returns-in-Err-write_along-clause-cause : goal.returns-in-Err-write_along-clause-cause
returns-in-Err-write_along-clause-cause g c =
    subst (λ e. HasCause (faults_of (g.B.Blocks.state c.args.on.now)) (faults_of (g.B.Blocks.state c.write_along.new.on)) ⊥ (HasRoom (g.B.Blocks.state c.write_along.new.on)) (need (length c.args.trail.now - 1) (length c.args.piece.now)) e) (sym c.file_error.ensures) (blocks_cause (g.B.Blocks.state c.args.on.now) (g.B.Blocks.state c.reserve_for.new.on) (g.B.Blocks.state c.write_along.new.on) (need (length c.args.trail.now - 1) (length c.args.piece.now)) _ (g.met.B.Blocks.keeps_all c.args.on.now c.reserve_for.new.on c.reserve_for.ensures.keeps) c.in-Err-write_along.why c.in-Err-write_along.ensures.cause)

pub returns-in-Ok-write_along-clause-keeps : goal.returns-in-Ok-write_along-clause-keeps
returns-in-Ok-write_along-clause-keeps g c =
    g.met.B.Blocks.keeps_joins c.args.on.now c.reserve_for.new.on c.write_along.new.on c.reserve_for.ensures.keeps c.write_along.ensures.keeps

pub returns-in-Err-write_along-clause-keeps : goal.returns-in-Err-write_along-clause-keeps
returns-in-Err-write_along-clause-keeps g c =
    g.met.B.Blocks.keeps_joins c.args.on.now c.reserve_for.new.on c.write_along.new.on c.reserve_for.ensures.keeps c.write_along.ensures.keeps

pub returns-in-Err-clause-dirties : goal.returns-in-Err-clause-dirties
returns-in-Err-clause-dirties g c = dirties_none _ c.reserve_for.ensures.dirties

pub returns-in-Ok-write_along-clause-dirties : goal.returns-in-Ok-write_along-clause-dirties
returns-in-Ok-write_along-clause-dirties g c = dirties_first c.reserve_for.ensures.dirties c.write_along.ensures.dirties

pub returns-in-Err-write_along-clause-dirties : goal.returns-in-Err-write_along-clause-dirties
returns-in-Err-write_along-clause-dirties g c = dirties_first c.reserve_for.ensures.dirties c.write_along.ensures.dirties
