use Rattle.std.proofs.Common.{◌≡◌, false, sym, ◌∙◌, Err, ap, refl, arith}
use Rattle.std.proofs.lemmas.Result.{err_from_is_err_and}
use Rattle.nine_fids.specs.Told.{info_at, served}
use Rattle.nine_fids.proofs.Seeing.{follows}
use Rattle.nine_files.specs.Removing.{gone, remove_need, removed}
use Rattle.nine_files.proofs.Making.{leads_after, leads_as, leads_looked, leads_still}
use Rattle.nine_files.proofs.Removals.{closed_gone, closed_plain, closed_refused, closed_there, gone_looked, most_there, need_gone, need_plain, need_there}
use Rattle.nine_files.proofs.removing.remove_on_close.Goals as goal

pub returns-then-not-is_removed : goal.returns-then-not-is_removed
returns-then-not-is_removed g c =
    let f = c.args.files.now in
    let e = served (g.F.FileOps.whole f) (g.F.FileOps.largest f) in
    let w = g.F.FileOps.world f in
    let met = g.met.F.FileOps in
    let stays = sym c.is_removed.ensures ∙ c.if-not-is_removed.true in
    leads_still _ _ _ _ _ _ (λ h. closed_plain e w c.args.fid.now c.args.now stays) (λ h. need_plain e w c.args.fid.now stays) (λ h. refl) (λ w n. met.touches_more _ _ w 0 n (omega arith) (met.keeps_touches _ _ w (met.keeps_at_once _)))

pub returns-then-is_gone : goal.returns-then-is_gone
returns-then-is_gone g c =
    let f = c.args.files.now in
    let e = served (g.F.FileOps.whole f) (g.F.FileOps.largest f) in
    let w = g.F.FileOps.world f in
    let met = g.met.F.FileOps in
    let goes = sym c.is_removed.ensures ∙ c.if-not-is_removed.false in
    let told = λ (h : g.F.FileOps.honest f). gone_looked _ _ _ _ c.info_at-looked.result (sym c.is_gone.ensures ∙ c.if-is_gone.true) (c.info_at-looked.ensures.looks.answer h) in
    leads_still _ _ _ _ _ _ (λ h. closed_gone e w c.args.fid.now c.args.now goes (told h)) (λ h. need_gone e w c.args.fid.now (told h)) c.info_at-looked.ensures.looks.world (λ w n. met.touches_more _ _ w 0 n (omega arith) (met.keeps_touches _ _ w c.info_at-looked.ensures.keeps))

pub returns-in_err-looked : goal.returns-in_err-looked
returns-in_err-looked g c =
    let f = c.args.files.now in
    let e = served (g.F.FileOps.whole f) (g.F.FileOps.largest f) in
    let w = g.F.FileOps.world f in
    let met = g.met.F.FileOps in
    let p = err_from_is_err_and c.from_residual.result c.from_residual.ensures.1 in
    let r = c.in_err-looked.field-0.0 in
    let there : gone (Err r) ≡ false = ap gone (sym c.in_err-looked.was) ∙ sym c.is_gone.ensures ∙ c.if-is_gone.false in
    let looks = rw c.in_err-looked.was at c.info_at-looked.ensures.looks in
    rw (p.1, p.2) (leads_looked _ _ _ (λ e w. info_at e w c.args.fid.now.place) _ _ _ r (λ h. closed_refused e w c.args.fid.now c.args.now r (sym c.is_removed.ensures ∙ c.if-not-is_removed.false) there) (λ w n. met.touches_more _ _ w 0 n (omega arith) (met.keeps_touches _ _ w c.info_at-looked.ensures.keeps)) looks)

pub returns : goal.returns
returns g c =
    let f = c.args.files.now in
    let e = served (g.F.FileOps.whole f) (g.F.FileOps.largest f) in
    let w = g.F.FileOps.world f in
    let met = g.met.F.FileOps in
    let k = c.info_at-looked.ensures.keeps in
    let goes = sym c.is_removed.ensures ∙ c.if-not-is_removed.false in
    let looks = rw c.in_ok-looked.was at c.info_at-looked.ensures.looks in
    leads_as _ _ _ (λ e w. removed e w c.args.fid.now c.args.now) _ (λ e w. remove_need c.args.fid.now) _ _ _ _
    (λ h. sym (closed_there e w c.args.fid.now c.args.now _ goes (looks.answer h))) (λ h. sym (need_there e w c.args.fid.now _ goes (looks.answer h))) (sym (most_there c.args.fid.now goes))
    (leads_after _ _ _ _ _ _ _ _ _ (follows _ _ (met.keeps_whole _ _ k) (met.keeps_largest _ _ k) (met.keeps_faults _ _ k) (met.keeps_honest _ _ k)) c.info_at-looked.ensures.looks.world (λ n. met.keeps_room _ _ n k) (λ w n. met.keeps_then _ _ _ w n k) c.remove_file.ensures.changes)
