use Rattle.std.proofs.Common.{sym, subst}
use Rattle.fo_vac_files.specs.Causes.{IsLoss}
use Rattle.fo_vac_files.proofs.Clean.{walk_loss}
use Rattle.fo_vac_files.proofs.looks.read_of.Goals as goal

pub returns-in-Ok-clause-held : goal.returns-in-Ok-clause-held
returns-in-Ok-clause-held g c = λ h o w k s. c.in-Ok.ensures.held h w k s.is

pub returns-in-Err-clause-held : goal.returns-in-Err-clause-held
returns-in-Err-clause-held g c = λ h o w k s. subst (IsLoss h o) (sym c.refusal.ensures) (walk_loss h o w c.args.source c.in-Err.why s (c.in-Err.ensures.held h w k s.is))
