use Rattle.std.proofs.Common.{◌≡◌, ℕ, List, [], refl, sym, ap, ◌∙◌, subst, arith}
use Rattle.std.proofs.lemmas.Result.{err_from_is_err_and}
use Rattle.fo_world.specs.World.{World}
use Rattle.fo_world.specs.Limits.{IsUser}
use Rattle.nine_fids.specs.declared.fid.Fid.{Fid}
use Rattle.nine_fids.specs.Fids.{Fids, AreUsers, known}
use Rattle.nine_fids.specs.Told.{Files, served, is_exclusive, iounit}
use Rattle.nine_fids.proofs.Seeing.{follows}
use Rattle.nine_files.specs.Granting.{admitted, told_qid}
use Rattle.nine_files.specs.Opening.{cut_need, most_cut, opened_so, truncated}
use Rattle.nine_session.specs.Attempting.{state, kept}
use Rattle.nine_session.specs.Opening.{open_file}
use Rattle.nine_session.specs.Session.{opening_need}
use Rattle.nine_session.proofs.Attempted.{attempted_denied, attempted_looked, attempted_more, attempted_no_memory, changed_done, changed_refused, changes_after}
use Rattle.nine_session.proofs.Ends.{fid_plain, version_plain}
use Rattle.nine_session.proofs.Kept.{need_there, number_there, user_there}
use Rattle.nine_session.proofs.Opens.{cut_within, fid_made, open_cuts, open_no_fid, open_no_version, open_refused, open_replies, opened_by, put_is_open}
use Rattle.nine_session.proofs.session.Session.open.Goals as goal

pub returns-in_err-msize-clause-attempted : goal.returns-in_err-msize-clause-attempted
returns-in_err-msize-clause-attempted g c =
    let f = c.args.files.now in
    let met = g.met.F.FileOps in
    let w = g.F.FileOps.world f in
    let x = c.args.exclusive.now.items in
    let z = state c.args.self.now x w in
    let r = c.in_err-msize.field-0.0 in
    let p = err_from_is_err_and c.from_residual.result c.from_residual.ensures.1 in
    let v = sym (c.version.ensures x w) ∙ c.in_err-msize.was in
    rw (p.1, p.2) (attempted_denied _ _ _ _ _ _ _ _ _ r (λ h. open_no_version _ z c.args.now c.args.fid c.args.mode r v) (λ h. refl) (version_plain z r v)
    refl refl (λ w n. met.touches_more _ _ w 0 n (omega arith) (met.keeps_touches _ _ w (met.keeps_at_once _))))

pub returns-in_err-from-clause-attempted : goal.returns-in_err-from-clause-attempted
returns-in_err-from-clause-attempted g c =
    let f = c.args.files.now in
    let met = g.met.F.FileOps in
    let w = g.F.FileOps.world f in
    let x = c.args.exclusive.now.items in
    let z = state c.args.self.now x w in
    let r = c.in_err-from.field-0.0 in
    let p = err_from_is_err_and c.from_residual-in_err-from.result c.from_residual-in_err-from.ensures.1 in
    let v = sym (c.version.ensures x w) ∙ c.in_ok-msize.was in
    rw (p.1, p.2) (attempted_denied _ _ _ _ _ _ _ _ _ r (λ h. open_no_fid _ z c.args.now c.args.fid c.args.mode c.in_ok-msize.msize r v (c.in_err-from.ensures x w)) (λ h. refl) (fid_plain z c.args.fid r (c.in_err-from.ensures x w))
    refl refl (λ w n. met.touches_more _ _ w 0 n (omega arith) (met.keeps_touches _ _ w (met.keeps_at_once _))))

pub returns-in_err-info-clause-attempted : goal.returns-in_err-info-clause-attempted
returns-in_err-info-clause-attempted g c =
    let f = c.args.files.now in
    let met = g.met.F.FileOps in
    let e = served (g.F.FileOps.whole f) (g.F.FileOps.largest f) in
    let w = g.F.FileOps.world f in
    let x = c.args.exclusive.now.items in
    let z = state c.args.self.now x w in
    let r = c.in_err-info.field-0.0 in
    let p = err_from_is_err_and c.from_residual-in_err-info.result c.from_residual-in_err-info.ensures.1 in
    let v = sym (c.version.ensures x w) ∙ c.in_ok-msize.was in
    let denied = rw c.as_slice.ensures.value at c.in_err-info.ensures.looks in
    rw (p.1, p.2) (attempted_looked _ _ _ _ _ _ _ _ _ (λ e w. admitted e w c.in_ok-from.from.now x c.args.mode) r
    (λ h. open_refused e z c.args.now c.args.fid c.args.mode c.in_ok-msize.msize c.in_ok-from.from.now r v (c.in_ok-from.ensures x w)) denied
    refl refl (λ w n. met.touches_more _ _ w 0 n (omega arith) (met.keeps_touches _ _ w c.admit.ensures.keeps)))

pub truncate-requires-clause-user : goal.truncate-requires-clause-user
truncate-requires-clause-user g c =
    let w = g.F.FileOps.world c.args.files.now in
    let P : Fids → Type 0 = λ s. AreUsers s.fids in
    user_there (state c.args.self.now [] w) c.args.fid c.in_ok-from.from.now (subst P c.self.view_is c.self.invariant) (c.in_ok-from.ensures [] w)

pub returns-in_err-user-clause-attempted : goal.returns-in_err-user-clause-attempted
returns-in_err-user-clause-attempted g c =
    let met = g.met.F.FileOps in
    let p = err_from_is_err_and c.from_residual-in_err-user.result c.from_residual-in_err-user.ensures.1 in
    rw p.1 (attempted_no_memory _ _ _ _ _ _ _ _ _ p.0 p.2 c.admit.ensures.looks.world refl refl (λ w n. met.touches_more _ _ w 0 n (omega arith) (met.keeps_touches _ _ w c.admit.ensures.keeps)))

pub returns-in_err-place-clause-attempted : goal.returns-in_err-place-clause-attempted
returns-in_err-place-clause-attempted g c =
    let met = g.met.F.FileOps in
    let p = err_from_is_err_and c.from_residual-in_err-place.result c.from_residual-in_err-place.ensures.1 in
    rw p.1 (attempted_no_memory _ _ _ _ _ _ _ _ _ p.0 p.2 c.admit.ensures.looks.world refl refl (λ w n. met.touches_more _ _ w 0 n (omega arith) (met.keeps_touches _ _ w c.admit.ensures.keeps)))

pub returns-in_err-reserve-clause-attempted : goal.returns-in_err-reserve-clause-attempted
returns-in_err-reserve-clause-attempted g c =
    let met = g.met.F.FileOps in
    let p = err_from_is_err_and c.from_residual-in_err-reserve.result c.from_residual-in_err-reserve.ensures.1 in
    rw p.1 (attempted_no_memory _ _ _ _ _ _ _ _ _ p.0 p.2 c.admit.ensures.looks.world (ap (kept c.args.self.now) c.reserve.ensures.items) refl (λ w n. met.touches_more _ _ w 0 n (omega arith) (met.keeps_touches _ _ w c.admit.ensures.keeps)))

pub returns-in_err-qid-clause-attempted : goal.returns-in_err-qid-clause-attempted
returns-in_err-qid-clause-attempted g c =
    let files = c.args.files.now in
    let e = served (g.F.FileOps.whole files) (g.F.FileOps.largest files) in
    let w = g.F.FileOps.world files in
    let x = c.args.exclusive.now.items in
    let z = state c.args.self.now x w in
    let met = g.met.F.FileOps in
    let k = c.admit.ensures.keeps in
    let f = c.in_ok-from.from.now in
    let info = c.in_ok-info.info in
    let mode = c.in_ok-info.mode in
    let fids = known c.args.fid c.args.self.now.fids in
    let there = c.in_ok-from.ensures x w in
    let looks = rw c.as_slice.ensures.value at c.in_ok-info.ensures.looks in
    let part = λ (e : Files) (w : World). told_qid (truncated e w f info mode c.args.now) in
    let need = λ (e : Files) (w : World). cut_need e w f info mode in
    let p = err_from_is_err_and c.from_residual-in_err-qid.result c.from_residual-in_err-qid.ensures.1 in
    rw (p.1, p.2) (attempted_more _ _ _ _ _ (λ e z. open_file e z c.args.now c.args.fid c.args.mode) _ (most_cut f info mode) _ (λ z. z) _ (cut_within fids f info c.args.mode mode c.in_ok-info.ensures.allowed there) (λ w. met.touches_more _ _ w _ _ (cut_within fids f info c.args.mode mode c.in_ok-info.ensures.allowed there))
    (changed_refused _ _ _ _ _ _ _ _ _ part need (opened_by c.in_ok-msize.msize z f info mode)
    (λ h. open_cuts e z c.args.now c.args.fid c.args.mode c.in_ok-msize.msize f info mode (sym (c.version.ensures x w) ∙ c.in_ok-msize.was) there (looks.answer h)) (λ p. refl)
    (λ h. sym (need_there fids f (λ f. opening_need e w f (admitted e w f x c.args.mode)) there ∙ ap (opening_need e w f) (looks.answer h))) c.in_err-qid.field-0.0
    (changes_after _ _ _ _ _ part need _ _ (follows _ _ (met.keeps_whole _ _ k) (met.keeps_largest _ _ k) (met.keeps_faults _ _ k) (met.keeps_honest _ _ k)) looks.world (λ n. met.keeps_room _ _ n k) (λ w n. met.keeps_then _ _ _ w n k) c.in_err-qid.ensures)
    (ap (kept c.args.self.now) c.reserve.ensures.items) refl))

pub put_open-requires-clause-user : goal.put_open-requires-clause-user
put_open-requires-clause-user g c =
    let w = g.F.FileOps.world c.args.files.now in
    let P : Fids → Type 0 = λ s. AreUsers s.fids in
    let Q : List ℕ → Type 0 = λ u. IsUser u in
    let same : c.open_fid.result.user ≡ c.in_ok-from.from.now.user = ap (λ (y : Fid). y.user) c.open_fid.ensures ∙ c.in_ok-user.ensures in
    subst Q (sym same) (user_there (state c.args.self.now [] w) c.args.fid c.in_ok-from.from.now (subst P c.self.view_is c.self.invariant) (c.in_ok-from.ensures [] w))

pub returns-clause-attempted : goal.returns-clause-attempted
returns-clause-attempted g c =
    let files = c.args.files.now in
    let e = served (g.F.FileOps.whole files) (g.F.FileOps.largest files) in
    let w = g.F.FileOps.world files in
    let w' = g.F.FileOps.world c.truncate.new.files in
    let x = c.args.exclusive.now.items in
    let z = state c.args.self.now x w in
    let met = g.met.F.FileOps in
    let k = c.admit.ensures.keeps in
    let f = c.in_ok-from.from.now in
    let info = c.in_ok-info.info in
    let mode = c.in_ok-info.mode in
    let fids = known c.args.fid c.args.self.now.fids in
    let there = c.in_ok-from.ensures x w in
    let looks = rw c.as_slice.ensures.value at c.in_ok-info.ensures.looks in
    let part = λ (e : Files) (w : World). told_qid (truncated e w f info mode c.args.now) in
    let need = λ (e : Files) (w : World). cut_need e w f info mode in
    let held = c.is_exclusive-held.ensures in
    let made = fid_made c.open_fid.result c.args.fid f.number _ f.user _ f.place _ (opened_so mode (is_exclusive info.mode)) c.open_fid.ensures (sym (number_there z c.args.fid f there)) c.in_ok-user.ensures c.in_ok-place.ensures (ap (opened_so mode) held) in
    let put = c.put_open.ensures w' ∙ put_is_open c.args.self.now x c.reserve.new.self.items w w' f c.open_fid.result f.place mode (is_exclusive info.mode) c.is_exclusive-held.result c.reserve.ensures.items held made in
    attempted_more _ _ _ _ _ (λ e z. open_file e z c.args.now c.args.fid c.args.mode) _ (most_cut f info mode) _ (λ z. z) _ (cut_within fids f info c.args.mode mode c.in_ok-info.ensures.allowed there) (λ w. met.touches_more _ _ w _ _ (cut_within fids f info c.args.mode mode c.in_ok-info.ensures.allowed there))
    (changed_done _ _ _ _ _ _ _ _ _ part need (opened_by c.in_ok-msize.msize z f info mode)
    (λ h. open_cuts e z c.args.now c.args.fid c.args.mode c.in_ok-msize.msize f info mode (sym (c.version.ensures x w) ∙ c.in_ok-msize.was) there (looks.answer h)) (λ p. refl)
    (λ h. sym (need_there fids f (λ f. opening_need e w f (admitted e w f x c.args.mode)) there ∙ ap (opening_need e w f) (looks.answer h))) _ c.in_ok-qid.qid
    (changes_after _ _ _ _ _ part need _ _ (follows _ _ (met.keeps_whole _ _ k) (met.keeps_largest _ _ k) (met.keeps_faults _ _ k) (met.keeps_honest _ _ k)) looks.world (λ n. met.keeps_room _ _ n k) (λ w n. met.keeps_then _ _ _ w n k) c.in_ok-qid.ensures)
    (λ h. open_replies c.in_ok-qid.qid (iounit c.in_ok-msize.msize) c.saturating_sub.result _ _ c.saturating_sub.ensures put))
