use Rattle.std.proofs.Common.{sym, refl, arith}
use Rattle.std.proofs.lemmas.Result.{err_from_is_err_and}
use Rattle.fo_world.specs.Step as step
use Rattle.fo_world.specs.World.{World}
use Rattle.nine_fids.specs.Told.{Files, served}
use Rattle.nine_fids.proofs.Seeing.{follows}
use Rattle.nine_files.specs.Granting.{allowed_change}
use Rattle.nine_files.proofs.Making.{leads_after, leads_as, leads_err, leads_looked, leads_ok, led, state_of}
use Rattle.nine_files.proofs.Restates.{changed_refused, changed_told, is_change, kind_good}
use Rattle.nine_files.proofs.stating.restate.Goals as goal

pub returns-in_err-check_change : goal.returns-in_err-check_change
returns-in_err-check_change g c =
    let f = c.args.files.now in
    let e = served (g.F.FileOps.whole f) (g.F.FileOps.largest f) in
    let w = g.F.FileOps.world f in
    let met = g.met.F.FileOps in
    let p = err_from_is_err_and c.from_residual.result c.from_residual.ensures.1 in
    let r = c.in_err-check_change.field-0.0 in
    rw (p.1, p.2) (leads_looked _ _ _ (λ e w. allowed_change e w c.args.fid.now c.args.is_bad c.args.what.now c.args.info.now) _ _ _ r
    (λ h. changed_refused e w c.args.now c.args.fid.now c.args.is_bad c.args.what.now c.args.info.now r) (λ w n. met.touches_more _ _ w 0 n (omega arith) (met.keeps_touches _ _ w c.check_change.ensures.keeps)) c.in_err-check_change.ensures.looks)

pub change-requires-clause-change : goal.change-requires-clause-change
change-requires-clause-change g c =
    let f = c.args.files.now in
    let e = served (g.F.FileOps.whole f) (g.F.FileOps.largest f) in
    let w = g.F.FileOps.world f in
    let met = g.met.F.FileOps in
    let k = c.check_change.ensures.keeps in
    is_change _ _ _ c.args.fid.now c.args.what.now c.in_ok-check_change.ensures.name c.requires.name c.in_ok-check_change.ensures.gid
    (λ later.
    let h = met.keeps_silent _ _ k later in
    rw (met.keeps_whole _ _ k, c.check_change.ensures.looks.world h)
    (kind_good e w c.args.fid.now c.args.is_bad c.args.what.now c.args.info.now (c.in_ok-check_change.ensures.looks.answer h) (c.requires.info h)))

pub returns-in_err-change : goal.returns-in_err-change
returns-in_err-change g c =
    let p = err_from_is_err_and c.from_residual-in_err-change.result c.from_residual-in_err-change.ensures.1 in
    let f = c.args.files.now in
    let e = served (g.F.FileOps.whole f) (g.F.FileOps.largest f) in
    let w = g.F.FileOps.world f in
    let met = g.met.F.FileOps in
    let k = c.check_change.ensures.keeps in
    let mid = c.check_change.new.files in
    let b = state_of (g.F.FileOps.whole mid) (g.F.FileOps.largest mid) (g.F.FileOps.world mid) (g.F.FileOps.faults mid) (g.F.FileOps.honest mid) (g.F.FileOps.has_room mid) in
    let changes = λ (e : Files) (w : World). step.change e.whole e.largest w c.args.fid.now.place c.args.what.now c.args.fid.now.user c.args.now in
    let need = λ (e : Files) (w : World). step.change_need e.whole w c.args.fid.now.place c.args.what.now in
    rw (p.1, p.2)
    (leads_as _ _ _ (led changes) _ need _ _ _ _
    (λ h. sym (changed_told e w c.args.now c.args.fid.now c.args.is_bad c.args.what.now c.args.info.now (c.in_ok-check_change.ensures.looks.answer h)))
    (λ h. refl) refl
    (leads_after _ b _ _ (λ w n. g.F.FileOps.touches mid w n c.change.new.self) (led changes) need _ _ (follows _ _ (met.keeps_whole _ _ k) (met.keeps_largest _ _ k) (met.keeps_faults _ _ k) (met.keeps_honest _ _ k)) c.check_change.ensures.looks.world (λ n. met.keeps_room _ _ n k) (λ w n. met.keeps_then _ _ _ w n k)
    (leads_err b _ _ changes need _ c.in_err-change.field-0.0 (λ h. c.in_err-change.ensures.answer h) (λ h. c.in_err-change.ensures.need h) c.in_err-change.ensures.cause (_, c.in_err-change.ensures.touches))))

pub returns : goal.returns
returns g c =
    let f = c.args.files.now in
    let e = served (g.F.FileOps.whole f) (g.F.FileOps.largest f) in
    let w = g.F.FileOps.world f in
    let met = g.met.F.FileOps in
    let k = c.check_change.ensures.keeps in
    let mid = c.check_change.new.files in
    let b = state_of (g.F.FileOps.whole mid) (g.F.FileOps.largest mid) (g.F.FileOps.world mid) (g.F.FileOps.faults mid) (g.F.FileOps.honest mid) (g.F.FileOps.has_room mid) in
    let changes = λ (e : Files) (w : World). step.change e.whole e.largest w c.args.fid.now.place c.args.what.now c.args.fid.now.user c.args.now in
    let need = λ (e : Files) (w : World). step.change_need e.whole w c.args.fid.now.place c.args.what.now in
    (leads_as _ _ _ (led changes) _ need _ _ _ _
    (λ h. sym (changed_told e w c.args.now c.args.fid.now c.args.is_bad c.args.what.now c.args.info.now (c.in_ok-check_change.ensures.looks.answer h)))
    (λ h. refl) refl
    (leads_after _ b _ _ (λ w n. g.F.FileOps.touches mid w n c.change.new.self) (led changes) need _ _ (follows _ _ (met.keeps_whole _ _ k) (met.keeps_largest _ _ k) (met.keeps_faults _ _ k) (met.keeps_honest _ _ k)) c.check_change.ensures.looks.world (λ n. met.keeps_room _ _ n k) (λ w n. met.keeps_then _ _ _ w n k)
    (leads_ok b _ _ changes need _ _ (λ h. c.in_ok-change.ensures.answer h) (λ h. c.in_ok-change.ensures.room h) (λ h. c.in_ok-change.ensures.need h) (_, c.in_ok-change.ensures.touches))))
