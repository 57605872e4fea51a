use Rattle.std.proofs.lemmas.Result.{err_from_is_err_and}
use Rattle.fo_world.specs.Step as step
use Rattle.nine_fids.specs.Told.{parent_at}
use Rattle.nine_fids.proofs.Seeing.{missed_looks, seen_looks}
use Rattle.nine_fids.proofs.Staying.{parent_stays}
use Rattle.nine_fids.proofs.looking.parent_at.Goals as goal

pub returns-in_err-parent-clause-looks : goal.returns-in_err-parent-clause-looks
unfolding parent_at
returns-in_err-parent-clause-looks g c =
    let p = err_from_is_err_and c.from_residual.result c.from_residual.ensures.1 in
    rw (p.1, p.2) (missed_looks _ _ (λ e w. step.parent e.whole w c.args.at.now) c.in_err-parent.field-0.0 (λ h. c.in_err-parent.ensures.answer h) c.in_err-parent.ensures.cause)

pub returns-clause-looks : goal.returns-clause-looks
unfolding parent_at
returns-clause-looks g c = seen_looks _ _ (λ e w. step.parent e.whole w c.args.at.now) c.in_ok-parent.field-0 (λ e w. parent_stays e.whole w c.args.at.now) (λ h. c.in_ok-parent.ensures.answer h)
