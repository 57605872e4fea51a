use Rattle.std.proofs.Common.{◌≡◌, true, false, sym, ap, ◌∙◌, refl}
use Rattle.std.proofs.lemmas.Result.{err_from_is_err_and}
use Rattle.nine_fids.specs.Told.{served}
use Rattle.nine_fids.specs.Rights.{table_of}
use Rattle.nine_fids.proofs.Missing.{ok_same}
use Rattle.nine_fids.proofs.Seeing.{follows, looks_after, looks_denied, looks_failed}
use Rattle.nine_files.specs.Granting.{is_bad}
use Rattle.nine_files.specs.Stating.{changing_rights_by}
use Rattle.nine_files.proofs.Links.{looks_plain, plain_at}
use Rattle.nine_files.proofs.Restates.{change_bad, change_elsewhere, change_last, change_unnamed, group_after, if_ok_any, unnamed_plain}
use Rattle.nine_files.proofs.stating.check_change.Goals as goal

pub returns-then-not-is_active-clause-looks : goal.returns-then-not-is_active-clause-looks
returns-then-not-is_active-clause-looks g c =
    looks_denied _ _ _ _ (λ h. change_elsewhere _ _ c.args.fid.now c.args.is_bad c.args.what.now c.args.info.now (sym c.is_active.ensures ∙ c.if-not-is_active.true)) (λ h. refl) tt

pub returns-in_err-users-clause-looks : goal.returns-in_err-users-clause-looks
returns-in_err-users-clause-looks g c =
    let p = err_from_is_err_and c.from_residual.result c.from_residual.ensures.1 in
    rw (p.1, p.2) (looks_failed _ _ table_of _ _ c.in_err-users.ensures.looks)

pub returns-then-is_bad_stat-clause-looks : goal.returns-then-is_bad_stat-clause-looks
returns-then-is_bad_stat-clause-looks g c =
    let f = c.args.files.now in
    let e = served (g.F.FileOps.whole f) (g.F.FileOps.largest f) in
    let w = g.F.FileOps.world f in
    looks_denied _ _ _ _ (λ h.
    let table : table_of e w ≡ c.in_ok-users.users.now = ok_same _ _ (c.in_ok-users.ensures.looks.answer h) in
    let bad : is_bad e w c.args.is_bad c.args.what.now c.args.info.now ≡ true = rw table (sym c.is_bad_stat.ensures ∙ c.if-is_bad_stat.true) in
    change_bad e w c.args.fid.now c.args.is_bad c.args.what.now c.args.info.now (sym c.is_active.ensures ∙ c.if-not-is_active.false) bad)
    c.table_of.ensures.looks.world tt

pub returns-in_err-check_name-clause-looks : goal.returns-in_err-check_name-clause-looks
returns-in_err-check_name-clause-looks g c =
    let f = c.args.files.now in
    let e = served (g.F.FileOps.whole f) (g.F.FileOps.largest f) in
    let w = g.F.FileOps.world f in
    let p = err_from_is_err_and c.from_residual-in_err-check_name.result c.from_residual-in_err-check_name.ensures.1 in
    let r = c.in_err-check_name.field-0.0 in
    let denied = sym c.check_name.ensures ∙ c.in_err-check_name.was in
    rw (p.1, p.2) (looks_plain _ _ _ r (λ h.
    let table : table_of e w ≡ c.in_ok-users.users.now = ok_same _ _ (c.in_ok-users.ensures.looks.answer h) in
    let bad : is_bad e w c.args.is_bad c.args.what.now c.args.info.now ≡ false = rw table (sym c.is_bad_stat.ensures ∙ c.if-is_bad_stat.false) in
    change_unnamed e w c.args.fid.now c.args.is_bad c.args.what.now c.args.info.now r (sym c.is_active.ensures ∙ c.if-not-is_active.false) bad denied)
    c.table_of.ensures.looks.world (plain_at _ _ (unnamed_plain c.args.fid.now c.args.what.now.name) denied))

pub returns-clause-looks : goal.returns-clause-looks
returns-clause-looks g c =
    let f = c.args.files.now in
    let e = served (g.F.FileOps.whole f) (g.F.FileOps.largest f) in
    let w = g.F.FileOps.world f in
    let met = g.met.F.FileOps in
    let k = c.table_of.ensures.keeps in
    looks_after _ _ _ _ (λ e w. changing_rights_by c.in_ok-users.users.now e w c.args.fid.now c.args.info.now c.args.what.now) _ (follows _ _ (met.keeps_whole _ _ k) (met.keeps_largest _ _ k) (met.keeps_faults _ _ k) (met.keeps_honest _ _ k)) c.table_of.ensures.looks.world
    (λ h.
    let table : table_of e w ≡ c.in_ok-users.users.now = ok_same _ _ (c.in_ok-users.ensures.looks.answer h) in
    let bad : is_bad e w c.args.is_bad c.args.what.now c.args.info.now ≡ false = rw table (sym c.is_bad_stat.ensures ∙ c.if-is_bad_stat.false) in
    ap (λ t. changing_rights_by t e w c.args.fid.now c.args.info.now c.args.what.now) (sym table)
    ∙ sym (change_last e w c.args.fid.now c.args.is_bad c.args.what.now c.args.info.now (sym c.is_active.ensures ∙ c.if-not-is_active.false) bad (sym c.check_name.ensures ∙ c.in_ok-check_name.was)))
    c.check_rights.ensures.looks

pub returns-clause-gid : goal.returns-clause-gid
returns-clause-gid g c =
    group_after c.check_rights.result c.in_ok-users.users.now c.args.is_bad c.args.what.now c.args.info.now c.in_ok-users.ensures.lines (sym c.is_bad_stat.ensures ∙ c.if-is_bad_stat.false)

pub returns-clause-name : goal.returns-clause-name
returns-clause-name g c =
    if_ok_any c.check_rights.result _ (sym c.check_name.ensures ∙ c.in_ok-check_name.was)
