use Rattle.std.proofs.Common.{Ok, refl, sym, ap, ◌∙◌}
use Rattle.std.proofs.lemmas.Result.{err_from_is_err_and}
use Rattle.fo_users.specs.Rights.{may}
use Rattle.nine_fids.specs.Rights.{table_of}
use Rattle.nine_fids.proofs.Missing.{ok_same}
use Rattle.nine_fids.proofs.Seeing.{looks_failed, looks_ok}
use Rattle.nine_files.proofs.Free.{may_more}
use Rattle.nine_files.proofs.rights.may.Goals as goal

pub returns-then-is_granted-clause-looks : goal.returns-then-is_granted-clause-looks
returns-then-is_granted-clause-looks g c =
    looks_ok _ _ _ _ (λ h. ap Ok (may_more _ c.args.user.now c.args.info.now c.args.right (sym c.is_granted.ensures ∙ c.if-is_granted.true))) (λ h. refl)

pub returns-in_err-users-clause-looks : goal.returns-in_err-users-clause-looks
returns-in_err-users-clause-looks g c =
    let p = err_from_is_err_and c.from_residual.result c.from_residual.ensures.1 in
    rw (p.1, p.2) (looks_failed _ _ table_of _ c.in_err-users.field-0.0 c.in_err-users.ensures.looks)

pub returns-clause-looks : goal.returns-clause-looks
returns-clause-looks g c =
    looks_ok _ _ _ _ (λ h.
    ap (λ t. Ok (may t c.args.user.now c.args.info.now c.args.right)) (ok_same _ _ (c.in_ok-users.ensures.looks.answer h)) ∙ ap Ok (sym c.may.ensures))
    c.in_ok-users.ensures.looks.world
