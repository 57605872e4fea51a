use Rattle.std.proofs.Common.{◌≡◌, true, sym, ◌∙◌, arith}
use Rattle.std.proofs.lemmas.Result.{err_from_is_err_and}
use Rattle.fo_world.specs.Step as step
use Rattle.nine_fids.specs.Told.{Files, qid_of, served}
use Rattle.fo_world.specs.World.{World}
use Rattle.nine_files.specs.Opening.{cut_info, cuts, emptied}
use Rattle.nine_files.proofs.Making.{changes_as, changes_err, changes_ok, changes_still, gives}
use Rattle.nine_files.proofs.Opens.{cut_most, cut_needs, cut_not, cut_told, no_cut_need}
use Rattle.nine_files.proofs.opening.truncate.Goals as goal

pub returns-then-not-cuts : goal.returns-then-not-cuts
returns-then-not-cuts g c =
    let f = c.args.files.now in
    let e = served (g.F.FileOps.whole f) (g.F.FileOps.largest f) in
    let w = g.F.FileOps.world f in
    let met = g.met.F.FileOps in
    let whole = sym c.cuts.ensures ∙ c.if-not-cuts.true in
    rw c.qid_of.ensures (changes_still _ _ _ _ _ _ (λ h. cut_not e w c.args.fid.now c.args.info.now c.args.mode c.args.now whole) (λ h. no_cut_need e w c.args.fid.now c.args.info.now c.args.mode whole)
    (λ w n. met.touches_more _ _ w 0 n (omega arith) (met.keeps_touches _ _ w (met.keeps_at_once _))))

pub returns-in_err-change : goal.returns-in_err-change
returns-in_err-change g c =
    let f = c.args.files.now in
    let e = served (g.F.FileOps.whole f) (g.F.FileOps.largest f) in
    let w = g.F.FileOps.world f in
    let p = err_from_is_err_and c.from_residual.result c.from_residual.ensures.1 in
    let cut : cuts c.args.info.now c.args.mode ≡ true = sym c.cuts.ensures ∙ c.if-not-cuts.false in
    let changes = λ (e : Files) (w : World). step.change e.whole e.largest w c.args.fid.now.place emptied c.args.fid.now.user c.args.now in
    let need = λ (e : Files) (w : World). step.change_need e.whole w c.args.fid.now.place emptied in
    let answer = rw c.emptied.ensures at c.in_err-change.ensures.answer in
    let needs = rw c.emptied.ensures at c.in_err-change.ensures.need in
    rw (p.1, p.2) (changes_as _ _ _ (gives (qid_of (cut_info c.args.info.now)) changes) _ need _ (step.most_need c.args.fid.now.place) _ _
    (λ h. sym (cut_told e w c.args.fid.now c.args.info.now c.args.mode c.args.now cut)) (λ h. cut_needs e w c.args.fid.now c.args.info.now c.args.mode cut) (cut_most c.args.fid.now c.args.info.now c.args.mode cut)
    (changes_err _ _ _ changes need _ (qid_of (cut_info c.args.info.now)) c.in_err-change.field-0.0 answer needs c.in_err-change.ensures.cause (_, c.in_err-change.ensures.touches)))

pub returns : goal.returns
returns g c =
    let f = c.args.files.now in
    let e = served (g.F.FileOps.whole f) (g.F.FileOps.largest f) in
    let w = g.F.FileOps.world f in
    let cut : cuts c.args.info.now c.args.mode ≡ true = sym c.cuts.ensures ∙ c.if-not-cuts.false in
    let changes = λ (e : Files) (w : World). step.change e.whole e.largest w c.args.fid.now.place emptied c.args.fid.now.user c.args.now in
    let need = λ (e : Files) (w : World). step.change_need e.whole w c.args.fid.now.place emptied in
    let answer = rw c.emptied.ensures at c.in_ok-change.ensures.answer in
    let room = rw c.emptied.ensures at c.in_ok-change.ensures.room in
    let needs = rw c.emptied.ensures at c.in_ok-change.ensures.need in
    rw (c.cut_qid.ensures) (changes_as _ _ _ (gives (qid_of (cut_info c.args.info.now)) changes) _ need _ (step.most_need c.args.fid.now.place) _ _
    (λ h. sym (cut_told e w c.args.fid.now c.args.info.now c.args.mode c.args.now cut)) (λ h. cut_needs e w c.args.fid.now c.args.info.now c.args.mode cut) (cut_most c.args.fid.now c.args.info.now c.args.mode cut)
    (changes_ok _ _ _ changes need _ (qid_of (cut_info c.args.info.now)) _ answer room needs (_, c.in_ok-change.ensures.touches)))
