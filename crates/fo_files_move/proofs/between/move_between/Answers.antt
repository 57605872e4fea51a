use Rattle.fo_files_record.proofs.Rewriting.{rewrites_joins, rewrites_wider}
use Rattle.fo_files_record.proofs.Owned.{entries_stay}
use Rattle.fo_files_move.proofs.Moving.{named_failed, moved_failed}
use Rattle.fo_files_move.proofs.between.move_between.Goals as goal
use Rattle.fo_dir_move.proofs.of_dirties.Adding.{dirties_idle, dirties_after}

pub returns-in-Err-clause-entries : goal.returns-in-Err-clause-entries
returns-in-Err-clause-entries g c = entries_stay c.args.entries (g.met.B.Blocks.keeps_all c.args.on.now c.both_read.new.on c.both_read.ensures.keeps) c.both_read.ensures.stays c.requires.entries

pub returns-in-Err-clause-rewrites : goal.returns-in-Err-clause-rewrites
returns-in-Err-clause-rewrites g c = rewrites_wider (λ b no'. absurd no') (λ b n no'. no') c.both_read.ensures.stays

pub returns-in-Err-first_named-clause-rewrites : goal.returns-in-Err-first_named-clause-rewrites
returns-in-Err-first_named-clause-rewrites g c = rewrites_wider (λ b no'. absurd no') (λ b n no'. no') c.both_read.ensures.stays

pub returns-in-Err-first_named-clause-entries : goal.returns-in-Err-first_named-clause-entries
returns-in-Err-first_named-clause-entries g c = entries_stay c.args.entries (g.met.B.Blocks.keeps_all c.args.on.now c.both_read.new.on c.both_read.ensures.keeps) c.both_read.ensures.stays c.requires.entries

pub returns-in-Err-first_named-clause-cause : goal.returns-in-Err-first_named-clause-cause
returns-in-Err-first_named-clause-cause g c = named_failed (g.B.Blocks.state c.args.on.now) (g.B.Blocks.state c.both_read.new.on) c.args.from c.requires.from.is_one c.in-Err-first_named.why c.in-Err-first_named.ensures.cause

pub fitted-requires-clause-silent : goal.fitted-requires-clause-silent
fitted-requires-clause-silent g c = λ h. c.requires.silent ((g.met.B.Blocks.keeps_all c.args.on.now c.both_read.new.on c.both_read.ensures.keeps).still_tells.0 h)

pub fitted-requires-clause-entries : goal.fitted-requires-clause-entries
fitted-requires-clause-entries g c = entries_stay c.args.entries (g.met.B.Blocks.keeps_all c.args.on.now c.both_read.new.on c.both_read.ensures.keeps) c.both_read.ensures.stays c.requires.entries

pub returns-in-Ok-first_named-clause-rewrites : goal.returns-in-Ok-first_named-clause-rewrites
returns-in-Ok-first_named-clause-rewrites g c = rewrites_joins (rewrites_wider (λ b no'. absurd no') (λ b n no'. no') c.both_read.ensures.stays) c.fitted.ensures.rewrites

pub returns-in-Ok-first_named-clause-cause : goal.returns-in-Ok-first_named-clause-cause
returns-in-Ok-first_named-clause-cause g c = moved_failed (g.B.Blocks.state c.args.on.now) (g.B.Blocks.state c.both_read.new.on) (g.B.Blocks.state c.fitted.new.on)
    (g.met.B.Blocks.keeps_all c.args.on.now c.both_read.new.on c.both_read.ensures.keeps) c.fitted.result c.fitted.ensures.cause

pub returns-in-Ok-first_named-clause-keeps : goal.returns-in-Ok-first_named-clause-keeps
returns-in-Ok-first_named-clause-keeps g c = g.met.B.Blocks.keeps_joins c.args.on.now c.both_read.new.on c.fitted.new.on c.both_read.ensures.keeps c.fitted.ensures.keeps

pub returns-in-Err-clause-dirties : goal.returns-in-Err-clause-dirties
returns-in-Err-clause-dirties g c = dirties_idle c.both_read.ensures.dirties

pub returns-in-Err-first_named-clause-dirties : goal.returns-in-Err-first_named-clause-dirties
returns-in-Err-first_named-clause-dirties g c = dirties_idle c.both_read.ensures.dirties

pub returns-in-Ok-first_named-clause-dirties : goal.returns-in-Ok-first_named-clause-dirties
returns-in-Ok-first_named-clause-dirties g c = dirties_after c.both_read.ensures.dirties c.fitted.ensures.dirties
