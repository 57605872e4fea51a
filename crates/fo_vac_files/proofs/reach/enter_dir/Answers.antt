use Rattle.std.proofs.Common.{sym, subst}
use Rattle.fo_vac_files.specs.Causes.{IsLoss}
use Rattle.fo_vac_files.proofs.Clean.{walk_loss}
use Rattle.fo_vac_files.proofs.Entered.{entered_dir}
use Rattle.fo_vac_files.proofs.reach.enter_dir.Goals as goal

pub returns-in-Ok-clause-held : goal.returns-in-Ok-clause-held
returns-in-Ok-clause-held g c = λ h o entries meta k d among.
    let e = c.in-Ok.ensures.held h entries k d.entries_are.is in
    entered_dir h o c.args.folder entries meta c.args.named c.in-Ok.below d among c.requires e.0 e.1 c.in-Ok.ensures.levels

pub returns-in-Err-clause-held : goal.returns-in-Err-clause-held
returns-in-Err-clause-held g c = λ h o entries meta k d among.
    subst (IsLoss h o) (sym c.refusal.ensures) (walk_loss h o entries c.args.folder.entries c.in-Err.why d.entries_are (c.in-Err.ensures.held h entries k d.entries_are.is))
