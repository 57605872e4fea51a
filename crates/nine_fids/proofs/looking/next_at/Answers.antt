use Rattle.std.proofs.lemmas.Result.{err_from_is_err_and}
use Rattle.std.specs.Option.{option_copied}
use Rattle.fo_world.specs.Step as step
use Rattle.nine_fids.specs.Told.{next_at}
use Rattle.nine_fids.proofs.Seeing.{missed_looks, seen_looks}
use Rattle.nine_fids.proofs.Staying.{next_name_stays}
use Rattle.nine_fids.proofs.looking.next_at.Goals as goal

pub returns-in_err-next_name-clause-looks : goal.returns-in_err-next_name-clause-looks
unfolding next_at
returns-in_err-next_name-clause-looks g c =
    let p = err_from_is_err_and c.from_residual.result c.from_residual.ensures.1 in
    rw (p.1, p.2) (missed_looks _ _ (λ e w. step.next_name e.whole w c.args.at.now (option_copied c.args.after)) c.in_err-next_name.field-0.0 (λ h. c.in_err-next_name.ensures.answer h) c.in_err-next_name.ensures.cause)

pub returns-clause-looks : goal.returns-clause-looks
unfolding next_at
returns-clause-looks g c = seen_looks _ _ (λ e w. step.next_name e.whole w c.args.at.now (option_copied c.args.after)) c.in_ok-next_name.field-0 (λ e w. next_name_stays e.whole w c.args.at.now (option_copied c.args.after)) (λ h. c.in_ok-next_name.ensures.answer h)
