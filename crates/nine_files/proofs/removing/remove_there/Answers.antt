use Rattle.std.proofs.Common.{sym, refl, arith}
use Rattle.std.proofs.lemmas.Result.{err_from_is_err_and}
use Rattle.nine_fids.specs.Told.{info_at, served}
use Rattle.nine_fids.proofs.Seeing.{follows}
use Rattle.nine_files.specs.Removing.{removed}
use Rattle.nine_files.proofs.Making.{leads_after, leads_as, leads_looked, had_before}
use Rattle.nine_files.proofs.Removals.{there_refused, there_told}
use Rattle.nine_files.proofs.removing.remove_there.Goals as goal

pub returns-in_err-info_at-clause-changes : goal.returns-in_err-info_at-clause-changes
returns-in_err-info_at-clause-changes g c =
    let f = c.args.files.now in
    let e = served (g.F.FileOps.whole f) (g.F.FileOps.largest f) in
    let w = g.F.FileOps.world f in
    let met = g.met.F.FileOps in
    let p = err_from_is_err_and c.from_residual.result c.from_residual.ensures.1 in
    rw (p.1, p.2) (leads_looked _ _ _ (λ e w. info_at e w c.args.fid.now.place) _ _ _ c.in_err-info_at.field-0.0 (λ h. there_refused e w c.args.fid.now c.args.now c.in_err-info_at.field-0.0) (λ w n. met.touches_more _ _ w 0 n (omega arith) (met.keeps_touches _ _ w c.info_at.ensures.keeps)) c.in_err-info_at.ensures.looks)

pub returns-clause-changes : goal.returns-clause-changes
returns-clause-changes g c =
    let f = c.args.files.now in
    let e = served (g.F.FileOps.whole f) (g.F.FileOps.largest f) in
    let w = g.F.FileOps.world f in
    let met = g.met.F.FileOps in
    let k = c.info_at.ensures.keeps in
    leads_as _ _ _ (λ e w. removed e w c.args.fid.now c.args.now) _ _ _ _ _ _ (λ h. sym (there_told e w c.args.fid.now c.args.now _ (c.in_ok-info_at.ensures.looks.answer h))) (λ h. refl) refl
    (leads_after _ _ _ _ _ _ _ _ _ (follows _ _ (met.keeps_whole _ _ k) (met.keeps_largest _ _ k) (met.keeps_faults _ _ k) (met.keeps_honest _ _ k)) c.info_at.ensures.looks.world (λ n. met.keeps_room _ _ n k) (λ w n. met.keeps_then _ _ _ w n k) c.remove_file.ensures.changes)

pub returns-clause-room : goal.returns-clause-room
returns-clause-room g c =
    let met = g.met.F.FileOps in
    had_before _ _ _ _ (λ n. met.keeps_room _ _ n c.info_at.ensures.keeps) c.remove_file.ensures.room
