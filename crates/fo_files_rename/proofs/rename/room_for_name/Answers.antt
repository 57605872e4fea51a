use Rattle.std.proofs.Common.{◌+◌, ◌*◌, inl, inr, refl, sym, subst, arith}
use Rattle.fo_world.specs.Answers.{HasCause}
use Rattle.fo_files_edit.specs.of_files_look.Told.{faults_of}
use Rattle.fo_files_edit.specs.of_files_along.Along.{HasRoom, IsBlocks}
use Rattle.fo_files_edit.proofs.of_files_along.Refusing.{blocks_are}
use Rattle.fo_files_rename.proofs.Settling.{settle_cause, settles_usable}
use Rattle.fo_files_rename.proofs.rename.room_for_name.Goals as goal
use Rattle.fo_dirties.proofs.Adding.{dirties_after}
use Rattle.fo_dirties.proofs.Dirtied.{dirties_rests}

pub settle_unless-requires : goal.settle_unless-requires
settle_unless-requires g c =
    record { silent = λ h. c.requires.silent ((g.met.B.Blocks.keeps_all c.args.on.now c.reserve_room.new.on c.reserve_room.ensures.keeps).still_tells.0 h) }

pub returns-in-Err-clause-left : goal.returns-in-Err-clause-left
returns-in-Err-clause-left g c = (c.reserve_room.new.on, c.reserve_room.ensures.rests, inl refl)

pub returns-in-Err-clause-dirties : goal.returns-in-Err-clause-dirties
returns-in-Err-clause-dirties g c =
    dirties_rests (g.B.Blocks.state c.args.on.now) (g.B.Blocks.state c.reserve_room.new.on) (g.met.B.Blocks.keeps_all c.args.on.now c.reserve_room.new.on c.reserve_room.ensures.keeps) c.reserve_room.ensures.rests

pub returns-in-Ok-settle_unless-clause-settles : goal.returns-in-Ok-settle_unless-clause-settles
returns-in-Ok-settle_unless-clause-settles g c = (c.reserve_room.new.on, c.reserve_room.ensures.rests, c.in-Ok-settle_unless.ensures.settles)

pub returns-in-Err-settle_unless-clause-left : goal.returns-in-Err-settle_unless-clause-left
returns-in-Err-settle_unless-clause-left g c = (c.reserve_room.new.on, c.reserve_room.ensures.rests, inr c.in-Err-settle_unless.ensures.left)

pub returns-in-Ok-settle_unless-clause-room : goal.returns-in-Ok-settle_unless-clause-room
returns-in-Ok-settle_unless-clause-room g c =
    let had = c.in-Ok.ensures.room in
    let same = c.settle_unless.ensures.room in
    (let a = had.0 in let b = same.0 in omega (arith, a, b), let a = had.1 in let b = same.1 in omega (arith, a, b), let a = had.2 in let b = same.2 in omega (arith, a, b))

pub returns-in-Ok-settle_unless-clause-usable : goal.returns-in-Ok-settle_unless-clause-usable
returns-in-Ok-settle_unless-clause-usable g c =
    let a = c.reserve_room.ensures.usable in
    let b = settles_usable _ g.B.Blocks.state c.args.alone c.reserve_room.new.on c.settle_unless.new.on c.in-Ok-settle_unless.ensures.settles in omega (arith, a, b)

pub returns-in-Err-settle_unless-clause-usable : goal.returns-in-Err-settle_unless-clause-usable
returns-in-Err-settle_unless-clause-usable g c =
    let a = c.reserve_room.ensures.usable in let b = c.in-Err-settle_unless.ensures.left.usable in omega (arith, a, b)

pub returns-in-Err-settle_unless-clause-refused : goal.returns-in-Err-settle_unless-clause-refused
returns-in-Err-settle_unless-clause-refused g c = subst (λ e. IsBlocks e) (sym c.file_error.ensures) (blocks_are c.in-Err-settle_unless.why)

pub returns-in-Err-settle_unless-clause-cause : goal.returns-in-Err-settle_unless-clause-cause
returns-in-Err-settle_unless-clause-cause g c =
    let a = g.B.Blocks.state c.args.on.now in
    let b = g.B.Blocks.state c.reserve_room.new.on in
    let d = g.B.Blocks.state c.settle_unless.new.on in
    subst (λ e. HasCause (faults_of a) (faults_of d) ⊥ (HasRoom d) (5 * c.args.steps + 31) e) (sym c.file_error.ensures) (settle_cause a b d (5 * c.args.steps + 31) (g.met.B.Blocks.keeps_all c.args.on.now c.reserve_room.new.on c.reserve_room.ensures.keeps) c.in-Err-settle_unless.why c.in-Err-settle_unless.ensures.cause)

pub returns-in-Ok-settle_unless-clause-dirties : goal.returns-in-Ok-settle_unless-clause-dirties
returns-in-Ok-settle_unless-clause-dirties g c =
    dirties_after (dirties_rests (g.B.Blocks.state c.args.on.now) (g.B.Blocks.state c.reserve_room.new.on) (g.met.B.Blocks.keeps_all c.args.on.now c.reserve_room.new.on c.reserve_room.ensures.keeps) c.reserve_room.ensures.rests) c.settle_unless.ensures.dirties

pub returns-in-Err-settle_unless-clause-dirties : goal.returns-in-Err-settle_unless-clause-dirties
returns-in-Err-settle_unless-clause-dirties g c =
    dirties_after (dirties_rests (g.B.Blocks.state c.args.on.now) (g.B.Blocks.state c.reserve_room.new.on) (g.met.B.Blocks.keeps_all c.args.on.now c.reserve_room.new.on c.reserve_room.ensures.keeps) c.reserve_room.ensures.rests) c.settle_unless.ensures.dirties

pub returns-in-Ok-settle_unless-clause-keeps : goal.returns-in-Ok-settle_unless-clause-keeps
returns-in-Ok-settle_unless-clause-keeps g c =
    g.met.B.Blocks.keeps_joins c.args.on.now c.reserve_room.new.on c.settle_unless.new.on c.reserve_room.ensures.keeps c.settle_unless.ensures.keeps

pub returns-in-Err-settle_unless-clause-keeps : goal.returns-in-Err-settle_unless-clause-keeps
returns-in-Err-settle_unless-clause-keeps g c =
    g.met.B.Blocks.keeps_joins c.args.on.now c.reserve_room.new.on c.settle_unless.new.on c.reserve_room.ensures.keeps c.settle_unless.ensures.keeps
