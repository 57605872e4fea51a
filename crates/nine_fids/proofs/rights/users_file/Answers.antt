use Rattle.std.proofs.Common.{◌≡◌, Ok, Some, None, ap, ◌∙◌, sym}
use Rattle.std.specs.Prelude.{codes}
use Rattle.std.proofs.lemmas.Result.{err_from_is_err_and}
use Rattle.fo_world.specs.declared.place.View.TheVariants.{Active}
use Rattle.fo_world.specs.Step.{root_at}
use Rattle.nine_fids.specs.Told.{served}
use Rattle.nine_fids.specs.Rights.{found_at, small_file}
use Rattle.nine_fids.proofs.Missing.{ok_same}
use Rattle.nine_fids.proofs.Seeing.{failed_after, follows, looks_after, looks_failed, looks_ok, told_at}
use Rattle.nine_fids.proofs.Tables.{no_adm, no_users, users_there}
use Rattle.nine_fids.proofs.rights.users_file.Goals as goal

pub returns-in_err-dir-clause-looks : goal.returns-in_err-dir-clause-looks
returns-in_err-dir-clause-looks g c =
    let p = err_from_is_err_and c.from_residual.result c.from_residual.ensures.1 in
    rw (p.1, p.2) (looks_failed _ _ (λ e w. found_at e w c.root-root.result (codes "adm")) _ _ c.in_err-dir.ensures.looks)

pub returns-in_default-clause-looks : goal.returns-in_default-clause-looks
returns-in_default-clause-looks g c =
    let f = c.args.files.now in
    let e = served (g.F.FileOps.whole f) (g.F.FileOps.largest f) in
    let w = g.F.FileOps.world f in
    looks_ok _ _ _ None (λ h.
    let first : found_at e w (root_at Active) (codes "adm") ≡ None = rw (← c.root-root.ensures) (ok_same _ _ (c.in_ok-dir.ensures.looks.answer h) ∙ c.in_default.is) in
    ap Ok (no_adm e w first))
    c.found_at.ensures.looks.world

pub returns-in_err-file-clause-looks : goal.returns-in_err-file-clause-looks
returns-in_err-file-clause-looks g c =
    let met = g.met.F.FileOps in
    let p = err_from_is_err_and c.from_residual-in_err-file.result c.from_residual-in_err-file.ensures.1 in
    let k = c.found_at.ensures.keeps in
    rw (p.1, p.2) (failed_after _ _ _ (λ e w. found_at e w c.in-Some.dir.place (codes "users")) _ c.in_err-file.field-0.0
    (follows _ _ (met.keeps_whole _ _ k) (met.keeps_largest _ _ k) (met.keeps_faults _ _ k) (met.keeps_honest _ _ k)) c.found_at.ensures.looks.world c.in_err-file.ensures.looks)

pub returns-in_default-2-clause-looks : goal.returns-in_default-2-clause-looks
returns-in_default-2-clause-looks g c =
    let f = c.args.files.now in
    let e = served (g.F.FileOps.whole f) (g.F.FileOps.largest f) in
    let w = g.F.FileOps.world f in
    let met = g.met.F.FileOps in
    let k = c.found_at.ensures.keeps in
    looks_ok _ _ _ None (λ h.
    let first : found_at e w (root_at Active) (codes "adm") ≡ Some c.in-Some.dir = rw (← c.root-root.ensures) (ok_same _ _ (c.in_ok-dir.ensures.looks.answer h) ∙ c.in-Some.is) in
    let then : Ok (found_at e w c.in-Some.dir.place (codes "users")) ≡ Ok c.in_ok-file.field-0 = told_at _ _ (λ e w. Ok (found_at e w c.in-Some.dir.place (codes "users"))) _ _ _ _ (met.keeps_whole _ _ k) (met.keeps_largest _ _ k) (c.found_at.ensures.looks.world h) c.in_ok-file.ensures.looks (met.keeps_honest _ _ k h) in
    ap Ok (no_users e w c.in-Some.dir first (ok_same _ _ then ∙ c.in_default-2.is)))
    (λ h. c.found_at-2.ensures.looks.world (met.keeps_honest _ _ k h) ∙ c.found_at.ensures.looks.world h)

pub returns-clause-looks : goal.returns-clause-looks
returns-clause-looks g c =
    let f = c.args.files.now in
    let e = served (g.F.FileOps.whole f) (g.F.FileOps.largest f) in
    let w = g.F.FileOps.world f in
    let met = g.met.F.FileOps in
    let k = c.found_at.ensures.keeps in
    let j = met.keeps_joins _ _ _ k c.found_at-2.ensures.keeps in
    looks_after _ _ _ _ (λ e w. Ok (small_file e w c.in-Some-2.file)) _
    (follows _ _ (met.keeps_whole _ _ j) (met.keeps_largest _ _ j) (met.keeps_faults _ _ j) (met.keeps_honest _ _ j))
    (λ h. c.found_at-2.ensures.looks.world (met.keeps_honest _ _ k h) ∙ c.found_at.ensures.looks.world h)
    (λ h.
    let first : found_at e w (root_at Active) (codes "adm") ≡ Some c.in-Some.dir = rw (← c.root-root.ensures) (ok_same _ _ (c.in_ok-dir.ensures.looks.answer h) ∙ c.in-Some.is) in
    let then : Ok (found_at e w c.in-Some.dir.place (codes "users")) ≡ Ok c.in_ok-file.field-0 = told_at _ _ (λ e w. Ok (found_at e w c.in-Some.dir.place (codes "users"))) _ _ _ _ (met.keeps_whole _ _ k) (met.keeps_largest _ _ k) (c.found_at.ensures.looks.world h) c.in_ok-file.ensures.looks (met.keeps_honest _ _ k h) in
    ap Ok (sym (users_there e w c.in-Some.dir c.in-Some-2.file first (ok_same _ _ then ∙ c.in-Some-2.is))))
    c.small_file.ensures.looks
