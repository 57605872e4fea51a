use Rattle.fo_files_record.proofs.Rewriting.{rewrites_joins, rewrites_wider}
use Rattle.fo_files_move.proofs.Moving.{moved_failed}
use Rattle.fo_files_move.proofs.between.fitted.Goals as goal
use Rattle.fo_dir_move.proofs.of_dirties.Adding.{dirties_idle, dirties_after}
use Rattle.fo_dir_move.proofs.of_dirties.Putting.{dirties_at_once}
use Rattle.std.proofs.Common.{[], ◌∷◌}

pub moved-requires-clause-silent : goal.moved-requires-clause-silent
moved-requires-clause-silent g c = λ h. c.requires.silent ((g.met.B.Blocks.keeps_all c.args.on.now c.placed.new.on c.placed.ensures.keeps).still_tells.0 h)

pub returns-in-Ok-clause-rewrites : goal.returns-in-Ok-clause-rewrites
returns-in-Ok-clause-rewrites g c = rewrites_joins (rewrites_wider (λ b no'. absurd no') (λ b n no'. no') c.placed.ensures.stays) c.moved.ensures.rewrites

pub returns-in-Err-clause-rewrites : goal.returns-in-Err-clause-rewrites
returns-in-Err-clause-rewrites g c = rewrites_wider (λ b no'. absurd no') (λ b n no'. no') c.placed.ensures.stays

pub returns-in-Ok-clause-cause : goal.returns-in-Ok-clause-cause
returns-in-Ok-clause-cause g c = moved_failed (g.B.Blocks.state c.args.on.now) (g.B.Blocks.state c.placed.new.on) (g.B.Blocks.state c.moved.new.on) (g.met.B.Blocks.keeps_all c.args.on.now c.placed.new.on c.placed.ensures.keeps) c.moved.result c.moved.ensures.cause

pub returns-in-Ok-clause-keeps : goal.returns-in-Ok-clause-keeps
returns-in-Ok-clause-keeps g c = g.met.B.Blocks.keeps_joins c.args.on.now c.placed.new.on c.moved.new.on c.placed.ensures.keeps c.moved.ensures.keeps

pub returns-in-Err-clause-dirties : goal.returns-in-Err-clause-dirties
returns-in-Err-clause-dirties g c = dirties_idle c.placed.ensures.dirties

pub returns-in-Ok-clause-dirties : goal.returns-in-Ok-clause-dirties
returns-in-Ok-clause-dirties g c = dirties_after c.placed.ensures.dirties c.moved.ensures.dirties

pub returns-then-not-has_room-clause-dirties : goal.returns-then-not-has_room-clause-dirties
returns-then-not-has_room-clause-dirties g c = dirties_at_once (g.B.Blocks.state c.args.on.now) (c.args.from ∷ c.args.to ∷ [])
