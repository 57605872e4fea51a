use Rattle.std.proofs.Common.{refl, sym, ap, ◌∙◌}
use Rattle.std.proofs.lemmas.Result.{err_from_is_err_and}
use Rattle.nine_fids.specs.Told.{served}
use Rattle.nine_fids.specs.Rights.{table_of}
use Rattle.nine_fids.proofs.Missing.{ok_same}
use Rattle.nine_fids.proofs.Seeing.{follows, looks_after, looks_failed, looks_ok}
use Rattle.nine_files.specs.Opening.{opening_rights_by}
use Rattle.nine_files.proofs.Free.{opening_free}
use Rattle.nine_files.proofs.opening.check_opening.Goals as goal

pub returns-then-is_free-clause-looks : goal.returns-then-is_free-clause-looks
returns-then-is_free-clause-looks g c =
    looks_ok _ _ _ _ (λ h. opening_free _ _ _ c.args.fid.now c.args.info.now c.args.mode (sym c.is_free.ensures ∙ c.if-is_free.true)) (λ h. refl)

pub returns-in_err-users-clause-looks : goal.returns-in_err-users-clause-looks
returns-in_err-users-clause-looks g c =
    let p = err_from_is_err_and c.from_residual.result c.from_residual.ensures.1 in
    rw (p.1, p.2) (looks_failed _ _ table_of _ c.in_err-users.field-0.0 c.in_err-users.ensures.looks)

pub returns-clause-looks : goal.returns-clause-looks
returns-clause-looks g c =
    let met = g.met.F.FileOps in
    let f = c.args.files.now in
    let e = served (g.F.FileOps.whole f) (g.F.FileOps.largest f) in
    let w = g.F.FileOps.world f in
    let k = c.table_of.ensures.keeps in
    looks_after _ _ _ _ (λ e w. opening_rights_by c.in_ok-users.users.now e w c.args.fid.now c.args.info.now c.args.mode) _ (follows _ _ (met.keeps_whole _ _ k) (met.keeps_largest _ _ k) (met.keeps_faults _ _ k) (met.keeps_honest _ _ k))
    c.in_ok-users.ensures.looks.world
    (λ h. ap (λ t. opening_rights_by t e w c.args.fid.now c.args.info.now c.args.mode) (sym (ok_same _ _ (c.in_ok-users.ensures.looks.answer h))))
    c.check_rights.ensures.looks
