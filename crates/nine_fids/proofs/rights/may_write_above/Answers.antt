use Rattle.std.proofs.Common.{sym, ◌∙◌}
use Rattle.std.proofs.lemmas.Result.{err_from_is_err_and}
use Rattle.nine_fids.specs.Told.{parent_at}
use Rattle.nine_fids.proofs.Seeing.{looks_denied, looks_ok, looks_refused}
use Rattle.nine_fids.proofs.Tables.{above_refused, above_denied, above_granted}
use Rattle.nine_fids.proofs.rights.may_write_above.Goals as goal

pub returns-in_err-dir-clause-looks : goal.returns-in_err-dir-clause-looks
returns-in_err-dir-clause-looks g c =
    let p = err_from_is_err_and c.from_residual.result c.from_residual.ensures.1 in
    rw (p.1, p.2) (looks_refused _ _ (λ e w. parent_at e w c.args.fid.now.place) _ c.in_err-dir.field-0.0 (λ h. above_refused c.args.users.now _ _ c.args.fid.now c.in_err-dir.field-0.0) c.in_err-dir.ensures.looks)

pub returns-then-not-may-clause-looks : goal.returns-then-not-may-clause-looks
returns-then-not-may-clause-looks g c =
    looks_denied _ _ _ _ (λ h. above_denied c.args.users.now _ _ c.args.fid.now c.in_ok-dir.dir (c.in_ok-dir.ensures.looks.answer h) (sym c.may.ensures ∙ c.if-not-may.true))
    c.parent_at.ensures.looks.world tt

pub returns-clause-looks : goal.returns-clause-looks
returns-clause-looks g c =
    looks_ok _ _ _ _ (λ h. above_granted c.args.users.now _ _ c.args.fid.now c.in_ok-dir.dir (c.in_ok-dir.ensures.looks.answer h) (sym c.may.ensures ∙ c.if-not-may.false))
    c.parent_at.ensures.looks.world
