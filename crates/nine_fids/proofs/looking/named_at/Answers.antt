use Rattle.std.proofs.lemmas.Result.{err_from_is_err_and}
use Rattle.fo_world.specs.Step as step
use Rattle.nine_fids.specs.Told.{named_at}
use Rattle.nine_fids.proofs.Seeing.{missed_looks, seen_looks}
use Rattle.nine_fids.proofs.Staying.{find_stays}
use Rattle.nine_fids.proofs.looking.named_at.Goals as goal

pub returns-in_err-find-clause-looks : goal.returns-in_err-find-clause-looks
unfolding named_at
returns-in_err-find-clause-looks g c =
    let p = err_from_is_err_and c.from_residual.result c.from_residual.ensures.1 in
    rw (p.1, p.2) (missed_looks _ _ (λ e w. step.find e.whole w c.args.at.now c.args.name.now) c.in_err-find.field-0.0 (λ h. c.in_err-find.ensures.answer h) c.in_err-find.ensures.cause)

pub returns-clause-looks : goal.returns-clause-looks
unfolding named_at
returns-clause-looks g c = seen_looks _ _ (λ e w. step.find e.whole w c.args.at.now c.args.name.now) c.in_ok-find.field-0 (λ e w. find_stays e.whole w c.args.at.now c.args.name.now) (λ h. c.in_ok-find.ensures.answer h)
