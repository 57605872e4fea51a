use Rattle.std.proofs.Common.{◌≡◌, ◌≤◌, [], length, Err, refl, sym, arith}
use Rattle.std.proofs.lemmas.Result.{err_from_is_err_and}
use Rattle.nine_fids.specs.Told.{served}
use Rattle.nine_files.specs.Parts.{arrived}
use Rattle.nine_session.specs.Attempting.{kept, state, walked_fid}
use Rattle.nine_session.proofs.Looked.{denied, missed}
use Rattle.nine_session.proofs.Walks.{walk_arrives, walk_finishes, walk_granted, walk_misses, walk_refused, walked_plain}
use Rattle.nine_session.proofs.session.Session.walk.Goals as goal

pub returns-in_err-from-clause-looked : goal.returns-in_err-from-clause-looked
returns-in_err-from-clause-looked g c = λ x.
    let w = g.F.FileOps.world c.args.files.now in
    let p = err_from_is_err_and c.from_residual.result c.from_residual.ensures.1 in
    let z = state c.args.self.now x w in
    let none : walked_fid z c.args.fid c.args.newfid c.args.names.now ≡ Err c.in_err-from.field-0.0 = rw (← c.as_slice-names.ensures) (c.in_err-from.ensures.told x w) in
    rw (p.1, p.2) (denied _ _ _ _ c.in_err-from.field-0.0 (λ h. refl) (λ h. walk_refused _ z c.args.fid c.args.newfid c.args.names.now c.in_err-from.field-0.0 none) (walked_plain z c.args.fid c.args.newfid c.args.names.now c.in_err-from.field-0.0 none))

pub returns-in_err-walked-clause-looked : goal.returns-in_err-walked-clause-looked
returns-in_err-walked-clause-looked g c = λ x.
    let w = g.F.FileOps.world c.args.files.now in
    let p = err_from_is_err_and c.from_residual-in_err-walked.result c.from_residual-in_err-walked.ensures.1 in
    let z = state c.args.self.now x w in
    let arrives = rw c.as_slice-names.ensures at c.in_err-walked.ensures.arrives in
    rw (p.1, p.2) (missed _ _ _ (λ e w. arrived e w c.in_ok-from.from.now c.args.names.now) _ c.in_err-walked.field-0.0 (λ h. walk_misses _ z c.args.fid c.args.newfid c.args.names.now c.in_ok-from.from.now c.in_err-walked.field-0.0 (rw (← c.as_slice-names.ensures) (c.in_ok-from.ensures.told x w))) arrives)

pub finish_walk-requires-clause-user : goal.finish_walk-requires-clause-user
finish_walk-requires-clause-user g c = rw c.in_ok-user.ensures c.in_ok-from.ensures.user

pub finish_walk-requires-clause-short : goal.finish_walk-requires-clause-short
finish_walk-requires-clause-short g c =
    let short : length c.in_ok-walked.walked.qids ≤ length c.as_slice-names.result.now = c.in_ok-walked.ensures.part.within in
    let few : length c.as_slice-names.result.now ≤ 16 = c.in_ok-from.ensures.few in
    omega arith

pub returns-clause-looked : goal.returns-clause-looked
returns-clause-looked g c = λ x.
    let files = c.args.files.now in
    let w = g.F.FileOps.world files in
    let e = served (g.F.FileOps.whole files) (g.F.FileOps.largest files) in
    let f = c.in_ok-from.from.now in
    let v = c.in_ok-walked.walked in
    let z = state c.args.self.now x w in
    let arrives = rw c.as_slice-names.ensures at c.in_ok-walked.ensures.arrives in
    walk_finishes _ _ _ _ _ f c.args.newfid v _ c.in_ok-walked.ensures.part.plain
    (λ h. walk_arrives e z c.args.fid c.args.newfid c.args.names.now f v (rw (← c.as_slice-names.ensures) (c.in_ok-from.ensures.told x w)) (arrives.answer h))
    c.walk_from.ensures.arrives.world (λ w. c.finish_walk.ensures.attempts x w f c.in_ok-from.ensures.number (sym c.in_ok-user.ensures))

pub returns-clause-part : goal.returns-clause-part
returns-clause-part g c =
    let w = g.F.FileOps.world c.args.files.now in
    let f = c.in_ok-from.from.now in
    let v = c.in_ok-walked.walked in
    let short : length v.qids ≤ length c.args.names.now = rw c.as_slice-names.ensures at c.in_ok-walked.ensures.part.within in
    walk_granted (kept c.args.self.now []) (kept c.finish_walk.new.self []) w f c.args.fid c.args.newfid c.args.names.now v _ short (c.finish_walk.ensures.attempts [] w f c.in_ok-from.ensures.number (sym c.in_ok-user.ensures))
