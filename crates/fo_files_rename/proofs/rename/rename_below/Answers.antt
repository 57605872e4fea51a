use Rattle.std.proofs.Common.{◌+◌, ◌*◌, length, inl, sym, subst, arith}
use Rattle.fo_tree_read.proofs.Exits.{looks_none}
use Rattle.fo_world.specs.Answers.{HasCause}
use Rattle.fo_files_edit.proofs.of_files_at.Ways.{way_stays}
use Rattle.fo_files_edit.specs.of_files_look.Told.{faults_of}
use Rattle.fo_files_edit.specs.of_files_along.Along.{HasRoom, IsBlocks}
use Rattle.fo_files_edit.proofs.of_files_along.Refusing.{blocks_are, blocks_cause}
use Rattle.fo_files_rename.proofs.Settling.{settles_left}
use Rattle.fo_files_rename.proofs.rename.rename_below.Goals as goal
use Rattle.fo_dirties.proofs.Adding.{dirties_none, dirties_first}

pub rename_along-requires-clause-silent : goal.rename_along-requires-clause-silent
rename_along-requires-clause-silent g c =
    λ h. c.requires.silent ((g.met.B.Blocks.keeps_all c.args.on.now c.room_for_name.new.on c.room_for_name.ensures.keeps).still_tells.0 h)

pub rename_along-requires-clause-way : goal.rename_along-requires-clause-way
rename_along-requires-clause-way g c =
    way_stays (g.B.Blocks.state c.args.on.now) (g.B.Blocks.state c.room_for_name.new.on) c.args.root c.args.trail.now c.args.found.now.way (g.met.B.Blocks.keeps_all c.args.on.now c.room_for_name.new.on c.room_for_name.ensures.keeps) c.requires.way

pub returns-in-Err-clause-left : goal.returns-in-Err-clause-left
returns-in-Err-clause-left g c =
    let p = c.in-Err.ensures.left in (p.0, c.room_for_name.new.on, p.1, p.2, inl (looks_none (g.B.Blocks.state c.room_for_name.new.on)))

pub returns-in-Ok-rename_along-clause-renames : goal.returns-in-Ok-rename_along-clause-renames
returns-in-Ok-rename_along-clause-renames g c =
    let p = c.in-Ok.ensures.settles in (p.0, c.room_for_name.new.on, p.1, p.2, c.in-Ok-rename_along.ensures.renames)

pub returns-in-Err-rename_along-clause-left : goal.returns-in-Err-rename_along-clause-left
returns-in-Err-rename_along-clause-left g c =
    let p = c.in-Ok.ensures.settles in
    (p.0, c.room_for_name.new.on, p.1, settles_left _ g.B.Blocks.state c.args.own.now.alone p.0 c.room_for_name.new.on p.2, c.in-Err-rename_along.ensures.left)

pub returns-in-Err-rename_along-clause-blocks : goal.returns-in-Err-rename_along-clause-blocks
returns-in-Err-rename_along-clause-blocks g c =
    subst (λ e. IsBlocks e) (sym c.file_error.ensures) (blocks_are c.in-Err-rename_along.why)

pub returns-in-Err-rename_along-clause-cause : goal.returns-in-Err-rename_along-clause-cause
returns-in-Err-rename_along-clause-cause g c =
    subst (λ e. HasCause (faults_of (g.B.Blocks.state c.args.on.now)) (faults_of (g.B.Blocks.state c.rename_along.new.on)) ⊥ (HasRoom (g.B.Blocks.state c.rename_along.new.on)) (5 * length c.args.trail.now + 31) e) (sym c.file_error.ensures) (blocks_cause (g.B.Blocks.state c.args.on.now) (g.B.Blocks.state c.room_for_name.new.on) (g.B.Blocks.state c.rename_along.new.on) (5 * length c.args.trail.now + 31) _ (g.met.B.Blocks.keeps_all c.args.on.now c.room_for_name.new.on c.room_for_name.ensures.keeps) c.in-Err-rename_along.why c.in-Err-rename_along.ensures.cause)

pub returns-in-Ok-rename_along-clause-keeps : goal.returns-in-Ok-rename_along-clause-keeps
returns-in-Ok-rename_along-clause-keeps g c =
    g.met.B.Blocks.keeps_joins c.args.on.now c.room_for_name.new.on c.rename_along.new.on c.room_for_name.ensures.keeps c.rename_along.ensures.keeps

pub returns-in-Err-rename_along-clause-keeps : goal.returns-in-Err-rename_along-clause-keeps
returns-in-Err-rename_along-clause-keeps g c =
    g.met.B.Blocks.keeps_joins c.args.on.now c.room_for_name.new.on c.rename_along.new.on c.room_for_name.ensures.keeps c.rename_along.ensures.keeps

pub returns-in-Ok-rename_along-clause-taken : goal.returns-in-Ok-rename_along-clause-taken
returns-in-Ok-rename_along-clause-taken g c =
    let a = c.room_for_name.ensures.usable in let b = c.rename_along.ensures.taken in let d = c.rename_along.ensures.spare in omega (arith, a, b, d)

pub returns-in-Err-rename_along-clause-taken : goal.returns-in-Err-rename_along-clause-taken
returns-in-Err-rename_along-clause-taken g c =
    let a = c.room_for_name.ensures.usable in let b = c.rename_along.ensures.taken in let d = c.rename_along.ensures.spare in omega (arith, a, b, d)

pub returns-in-Err-clause-dirties : goal.returns-in-Err-clause-dirties
returns-in-Err-clause-dirties g c = dirties_none _ c.room_for_name.ensures.dirties

pub returns-in-Ok-rename_along-clause-dirties : goal.returns-in-Ok-rename_along-clause-dirties
returns-in-Ok-rename_along-clause-dirties g c = dirties_first c.room_for_name.ensures.dirties c.rename_along.ensures.dirties

pub returns-in-Err-rename_along-clause-dirties : goal.returns-in-Err-rename_along-clause-dirties
returns-in-Err-rename_along-clause-dirties g c = dirties_first c.room_for_name.ensures.dirties c.rename_along.ensures.dirties
