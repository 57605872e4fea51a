use Rattle.std.proofs.Common.{◌+◌, ◌*◌, ◌≤◌, inr, sym, subst}
use Rattle.fo_world.specs.Answers.{HasCause}
use Rattle.fo_world.specs.Step.{need}
use Rattle.fo_files_create_look.specs.of_files_look.Told.{faults_of}
use Rattle.fo_files_create_look.specs.of_files_along.Along.{HasRoom, IsBlocks}
use Rattle.fo_files_create_look.proofs.of_files_along.Refusing.{blocks_are}
use Rattle.fo_files_create.proofs.Settling.{numbers_on, settle_cause, settles_or, usable_on}
use Rattle.fo_files_create.proofs.create.reserve_and_settle.Goals as goal
use Rattle.fo_dirties.proofs.Adding.{dirties_after}
use Rattle.fo_dirties.proofs.Dirtied.{dirties_rests}

pub returns-in-Ok-settle_unless-clause-settles : goal.returns-in-Ok-settle_unless-clause-settles
returns-in-Ok-settle_unless-clause-settles g c = (c.reserve_room.new.on, c.reserve_room.ensures.rests, c.in-Ok-settle_unless.ensures.settles)

pub returns-in-Err-clause-cause : goal.returns-in-Err-clause-cause
returns-in-Err-clause-cause g c =
    subst (λ m. HasCause (faults_of (g.B.Blocks.state c.args.on.now)) (faults_of (g.B.Blocks.state c.reserve_room.new.on)) ⊥ (HasRoom (g.B.Blocks.state c.reserve_room.new.on)) m c.in-Err.why) c.blocks_for.ensures c.in-Err.ensures.cause

pub returns-in-Err-clause-dirties : goal.returns-in-Err-clause-dirties
returns-in-Err-clause-dirties g c = dirties_rests (g.B.Blocks.state c.args.on.now) (g.B.Blocks.state c.reserve_room.new.on) (g.met.B.Blocks.keeps_all c.args.on.now c.reserve_room.new.on c.reserve_room.ensures.keeps) c.reserve_room.ensures.rests

pub returns-in-Ok-settle_unless-clause-numbers : goal.returns-in-Ok-settle_unless-clause-numbers
returns-in-Ok-settle_unless-clause-numbers g c =
    let rested = settles_or _ g.B.Blocks.state c.args.alone c.reserve_room.new.on c.settle_unless.new.on c.in-Ok-settle_unless.ensures.settles in
    numbers_on _ g.B.Blocks.state (g.B.Blocks.state c.args.on.now) c.reserve_room.new.on c.settle_unless.new.on c.reserve_room.ensures.rests rested

pub returns-in-Err-settle_unless-clause-numbers : goal.returns-in-Err-settle_unless-clause-numbers
returns-in-Err-settle_unless-clause-numbers g c =
    numbers_on _ g.B.Blocks.state (g.B.Blocks.state c.args.on.now) c.reserve_room.new.on c.settle_unless.new.on c.reserve_room.ensures.rests (inr c.in-Err-settle_unless.ensures.left)

pub returns-in-Ok-settle_unless-clause-room : goal.returns-in-Ok-settle_unless-clause-room
returns-in-Ok-settle_unless-clause-room g c =
    let had = c.in-Ok.ensures.room in
    let same = c.settle_unless.ensures.room in (
      subst (λ n. need c.args.depth 0 ≤ n) (sym same.0) (subst (λ n. n ≤ (g.B.Blocks.state c.reserve_room.new.on).spare) c.blocks_for.ensures had.0),
      subst (λ n. 20 * c.args.depth + 142 ≤ n) (sym same.1) (subst (λ n. n ≤ (g.B.Blocks.state c.reserve_room.new.on).pins_left) c.pins_for.ensures had.1),
      subst (λ n. 3274 ≤ n) (sym same.2) had.2,
    )

pub returns-in-Ok-settle_unless-clause-had : goal.returns-in-Ok-settle_unless-clause-had
returns-in-Ok-settle_unless-clause-had g c = λ n has. subst (λ m. m ≤ n) c.blocks_for.ensures (c.in-Ok.ensures.had n has)

pub returns-in-Ok-settle_unless-clause-usable : goal.returns-in-Ok-settle_unless-clause-usable
returns-in-Ok-settle_unless-clause-usable g c =
    let rested = settles_or _ g.B.Blocks.state c.args.alone c.reserve_room.new.on c.settle_unless.new.on c.in-Ok-settle_unless.ensures.settles in
    usable_on _ g.B.Blocks.state (g.B.Blocks.state c.args.on.now) c.reserve_room.new.on c.settle_unless.new.on c.reserve_room.ensures.usable rested

pub returns-in-Err-settle_unless-clause-usable : goal.returns-in-Err-settle_unless-clause-usable
returns-in-Err-settle_unless-clause-usable g c =
    usable_on _ g.B.Blocks.state (g.B.Blocks.state c.args.on.now) c.reserve_room.new.on c.settle_unless.new.on c.reserve_room.ensures.usable (inr c.in-Err-settle_unless.ensures.left)

pub returns-in-Ok-settle_unless-clause-dirties : goal.returns-in-Ok-settle_unless-clause-dirties
returns-in-Ok-settle_unless-clause-dirties g c =
    dirties_after (dirties_rests (g.B.Blocks.state c.args.on.now) (g.B.Blocks.state c.reserve_room.new.on) (g.met.B.Blocks.keeps_all c.args.on.now c.reserve_room.new.on c.reserve_room.ensures.keeps) c.reserve_room.ensures.rests) c.settle_unless.ensures.dirties

pub returns-in-Err-settle_unless-clause-dirties : goal.returns-in-Err-settle_unless-clause-dirties
returns-in-Err-settle_unless-clause-dirties g c =
    dirties_after (dirties_rests (g.B.Blocks.state c.args.on.now) (g.B.Blocks.state c.reserve_room.new.on) (g.met.B.Blocks.keeps_all c.args.on.now c.reserve_room.new.on c.reserve_room.ensures.keeps) c.reserve_room.ensures.rests) c.settle_unless.ensures.dirties

pub returns-in-Ok-settle_unless-clause-keeps : goal.returns-in-Ok-settle_unless-clause-keeps
returns-in-Ok-settle_unless-clause-keeps g c = g.met.B.Blocks.keeps_joins c.args.on.now c.reserve_room.new.on c.settle_unless.new.on c.reserve_room.ensures.keeps c.settle_unless.ensures.keeps

pub returns-in-Err-settle_unless-clause-keeps : goal.returns-in-Err-settle_unless-clause-keeps
returns-in-Err-settle_unless-clause-keeps g c = g.met.B.Blocks.keeps_joins c.args.on.now c.reserve_room.new.on c.settle_unless.new.on c.reserve_room.ensures.keeps c.settle_unless.ensures.keeps

pub returns-in-Err-settle_unless-clause-refused : goal.returns-in-Err-settle_unless-clause-refused
returns-in-Err-settle_unless-clause-refused g c = subst (λ e. IsBlocks e) (sym c.file_error.ensures) (blocks_are c.in-Err-settle_unless.why)

pub returns-in-Err-settle_unless-clause-cause : goal.returns-in-Err-settle_unless-clause-cause
returns-in-Err-settle_unless-clause-cause g c =
    let s = g.B.Blocks.state c.args.on.now in
    let b = g.B.Blocks.state c.reserve_room.new.on in
    let u = g.B.Blocks.state c.settle_unless.new.on in
    subst (λ e. HasCause (faults_of s) (faults_of u) ⊥ (HasRoom u) (need c.args.depth 0) e) (sym c.file_error.ensures) (settle_cause s b u (need c.args.depth 0) (g.met.B.Blocks.keeps_all c.args.on.now c.reserve_room.new.on c.reserve_room.ensures.keeps) c.in-Err-settle_unless.why c.in-Err-settle_unless.ensures.cause)
