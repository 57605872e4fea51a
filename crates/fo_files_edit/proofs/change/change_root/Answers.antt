use Rattle.std.proofs.Common.{[], inl, sym, subst}
use Rattle.fo_tree_read.proofs.Exits.{looks_none}
use Rattle.fo_world.specs.Answers.{HasCause}
use Rattle.fo_files_into.proofs.of_files_at.Ways.{way_stays}
use Rattle.fo_files_into.specs.of_files_look.Told.{faults_of}
use Rattle.fo_files_into.specs.of_files_along.Along.{HasRoom, IsBlocks}
use Rattle.fo_files_into.proofs.of_files_along.Refusing.{blocks_are, blocks_cause}
use Rattle.fo_files_edit.proofs.change.change_root.Goals as goal
use Rattle.fo_dirties.proofs.Adding.{dirties_none, dirties_first}
use Rattle.fo_dirties.proofs.Dirtied.{dirties_rests}

pub edit_root-requires-clause-silent : goal.edit_root-requires-clause-silent
edit_root-requires-clause-silent g c =
    λ h. c.requires.silent ((g.met.B.Blocks.keeps_all c.args.on.now c.reserve_room.new.on c.reserve_room.ensures.keeps).still_tells.0 h)

pub edit_root-requires-clause-way : goal.edit_root-requires-clause-way
edit_root-requires-clause-way g c =
    way_stays (g.B.Blocks.state c.args.on.now) (g.B.Blocks.state c.reserve_room.new.on) c.args.root [] c.args.found.now.way (g.met.B.Blocks.keeps_all c.args.on.now c.reserve_room.new.on c.reserve_room.ensures.keeps) c.requires.way

pub returns-in-Err-clause-left : goal.returns-in-Err-clause-left
returns-in-Err-clause-left g c =
    (c.reserve_room.new.on, c.reserve_room.ensures.rests, inl (looks_none (g.B.Blocks.state c.reserve_room.new.on)))

pub returns-in-Ok-edit_root-clause-edits : goal.returns-in-Ok-edit_root-clause-edits
returns-in-Ok-edit_root-clause-edits g c =
    (c.reserve_room.new.on, c.reserve_room.ensures.rests, c.in-Ok-edit_root.ensures.edits)

pub returns-in-Err-edit_root-clause-left : goal.returns-in-Err-edit_root-clause-left
returns-in-Err-edit_root-clause-left g c =
    (c.reserve_room.new.on, c.reserve_room.ensures.rests, c.in-Err-edit_root.ensures.left)

pub returns-in-Err-edit_root-clause-blocks : goal.returns-in-Err-edit_root-clause-blocks
returns-in-Err-edit_root-clause-blocks g c =
    subst (λ e. IsBlocks e) (sym c.file_error.ensures) (blocks_are c.in-Err-edit_root.why)

pub returns-in-Err-edit_root-clause-cause : goal.returns-in-Err-edit_root-clause-cause
returns-in-Err-edit_root-clause-cause g c =
    subst (λ e. HasCause (faults_of (g.B.Blocks.state c.args.on.now)) (faults_of (g.B.Blocks.state c.edit_root.new.on)) ⊥ (HasRoom (g.B.Blocks.state c.edit_root.new.on)) 0 e) (sym c.file_error.ensures) (blocks_cause (g.B.Blocks.state c.args.on.now) (g.B.Blocks.state c.reserve_room.new.on) (g.B.Blocks.state c.edit_root.new.on) 0 _ (g.met.B.Blocks.keeps_all c.args.on.now c.reserve_room.new.on c.reserve_room.ensures.keeps) c.in-Err-edit_root.why c.in-Err-edit_root.ensures.cause)

pub returns-in-Ok-edit_root-clause-keeps : goal.returns-in-Ok-edit_root-clause-keeps
returns-in-Ok-edit_root-clause-keeps g c =
    g.met.B.Blocks.keeps_joins c.args.on.now c.reserve_room.new.on c.edit_root.new.on c.reserve_room.ensures.keeps c.edit_root.ensures.keeps

pub returns-in-Err-edit_root-clause-keeps : goal.returns-in-Err-edit_root-clause-keeps
returns-in-Err-edit_root-clause-keeps g c =
    g.met.B.Blocks.keeps_joins c.args.on.now c.reserve_room.new.on c.edit_root.new.on c.reserve_room.ensures.keeps c.edit_root.ensures.keeps

pub returns-in-Err-clause-dirties : goal.returns-in-Err-clause-dirties
returns-in-Err-clause-dirties g c = dirties_none _ (dirties_rests (g.B.Blocks.state c.args.on.now) (g.B.Blocks.state c.reserve_room.new.on) (g.met.B.Blocks.keeps_all c.args.on.now c.reserve_room.new.on c.reserve_room.ensures.keeps) c.reserve_room.ensures.rests)

pub returns-in-Ok-edit_root-clause-dirties : goal.returns-in-Ok-edit_root-clause-dirties
returns-in-Ok-edit_root-clause-dirties g c = dirties_first (dirties_rests (g.B.Blocks.state c.args.on.now) (g.B.Blocks.state c.reserve_room.new.on) (g.met.B.Blocks.keeps_all c.args.on.now c.reserve_room.new.on c.reserve_room.ensures.keeps) c.reserve_room.ensures.rests) c.edit_root.ensures.dirties

pub returns-in-Err-edit_root-clause-dirties : goal.returns-in-Err-edit_root-clause-dirties
returns-in-Err-edit_root-clause-dirties g c = dirties_first (dirties_rests (g.B.Blocks.state c.args.on.now) (g.B.Blocks.state c.reserve_room.new.on) (g.met.B.Blocks.keeps_all c.args.on.now c.reserve_room.new.on c.reserve_room.ensures.keeps) c.reserve_room.ensures.rests) c.edit_root.ensures.dirties
