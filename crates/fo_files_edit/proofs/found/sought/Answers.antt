use Rattle.std.proofs.Common.{ap, subst, ◌∙◌}
use Rattle.std.specs.Prelude.{not}
use Rattle.fo_files_edit.specs.Asks.{IsRefused, changes_nothing}
use Rattle.fo_files_edit.proofs.Refusing.{told_cause}
use Rattle.fo_files_edit.proofs.found.sought.Goals as goal

pub returns-in-Err-clause-refused : goal.returns-in-Err-clause-refused
returns-in-Err-clause-refused g c = c.in-Err.ensures.refused c.args.halted c.args.way.now.file.named.name

pub returns-in-Err-clause-cause : goal.returns-in-Err-clause-cause
returns-in-Err-clause-cause g c = told_cause (g.B.Blocks.state c.args.on.now) (g.B.Blocks.state c.args.on.now) (λ n. ⊥) 0 c.in-Err.why c.in-Err.ensures.told

pub returns-in-Err-name_is_free-clause-refused : goal.returns-in-Err-name_is_free-clause-refused
returns-in-Err-name_is_free-clause-refused g c = c.in-Err-name_is_free.ensures.refused c.args.at.now.view c.args.halted c.in-Ok.ensures.active

pub returns-in-Ok-bars_late-clause-changes : goal.returns-in-Ok-bars_late-clause-changes
returns-in-Ok-bars_late-clause-changes g c =
    c.in-Ok-bars_late.ensures.changes ∙ ap (λ n. not (changes_nothing c.args.what.now n c.args.way.now.file.dir)) c.as_slice.ensures

pub returns-in-Err-bars_late-clause-refused : goal.returns-in-Err-bars_late-clause-refused
returns-in-Err-bars_late-clause-refused g c =
    subst (λ n. IsRefused c.args.at.now.view c.args.what.now c.args.halted c.args.way.now.file.dir n c.in-Err-bars_late.why) c.as_slice.ensures (c.in-Err-bars_late.ensures.refused c.args.at.now.view c.in-Ok.ensures.active)

pub returns-in-Err-bars_late-clause-cause : goal.returns-in-Err-bars_late-clause-cause
returns-in-Err-bars_late-clause-cause g c = told_cause (g.B.Blocks.state c.args.on.now) (g.B.Blocks.state c.name_is_free.new.on) (λ n. ⊥) 0 c.in-Err-bars_late.why c.in-Err-bars_late.ensures.told
