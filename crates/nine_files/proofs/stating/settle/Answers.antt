use Rattle.std.proofs.Common.{refl}
use Rattle.std.proofs.lemmas.Result.{err_from_is_err_and}
use Rattle.fo_world.specs.Step as step
use Rattle.nine_fids.proofs.Seeing.{missed_looks, seen_looks}
use Rattle.nine_files.proofs.stating.settle.Goals as goal

pub returns-in_err-sync-clause-looks : goal.returns-in_err-sync-clause-looks
returns-in_err-sync-clause-looks g c =
    let p = err_from_is_err_and c.from_residual.result c.from_residual.ensures.1 in
    rw (p.1, p.2) (missed_looks _ _ (λ e w. step.sync w) c.in_err-sync.field-0.0 (λ h. c.in_err-sync.ensures.answer h) c.in_err-sync.ensures.cause)

pub returns-clause-looks : goal.returns-clause-looks
returns-clause-looks g c =
    seen_looks _ _ (λ e w. step.sync w) _ (λ e w. refl) (λ h. c.in_ok-sync.ensures.answer h)
