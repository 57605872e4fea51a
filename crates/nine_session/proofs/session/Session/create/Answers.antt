use Rattle.std.proofs.Common.{◌≡◌, ℕ, List, [], refl, sym, ap, ◌∙◌, subst, arith}
use Rattle.std.proofs.lemmas.Result.{err_from_is_err_and}
use Rattle.fo_world.specs.World.{World}
use Rattle.fo_world.specs.Limits.{IsUser}
use Rattle.fo_world.specs.Step as step
use Rattle.nine_fids.specs.declared.fid.Fid.{Fid}
use Rattle.nine_fids.specs.Fids.{Fids, AreUsers, known}
use Rattle.nine_fids.specs.Refusing.{changed}
use Rattle.nine_fids.specs.Told.{Files, served, is_exclusive, iounit, qid_of}
use Rattle.nine_fids.proofs.Seeing.{follows}
use Rattle.nine_files.specs.Granting.{admitted_new}
use Rattle.nine_files.specs.Opening.{new_mode, opened_so}
use Rattle.nine_files.proofs.Making.{state_of}
use Rattle.nine_files.proofs.Restates.{good_name}
use Rattle.nine_session.specs.Attempting.{state, kept}
use Rattle.nine_session.specs.Opening.{create_file}
use Rattle.nine_session.proofs.Attempted.{attempted_as, attempted_denied, attempted_looked, attempted_no_memory, changed_done, changed_refused, changes_after, makes_err, makes_ok}
use Rattle.nine_session.proofs.Ends.{fid_plain, version_plain}
use Rattle.nine_session.proofs.Kept.{need_there, number_there, user_there}
use Rattle.nine_session.proofs.Opens.{create_at, create_no_fid, create_no_version, create_refused, create_replies, created, fid_made, named_well, put_is_open}
use Rattle.nine_session.proofs.session.Session.create.Goals as goal

pub returns-in_err-msize-clause-attempted : goal.returns-in_err-msize-clause-attempted
returns-in_err-msize-clause-attempted g c =
    let f = c.args.files.now in
    let met = g.met.F.FileOps in
    let w = g.F.FileOps.world f in
    let x = c.args.exclusive.now.items in
    let z = state c.args.self.now x w in
    let r = c.in_err-msize.field-0.0 in
    let p = err_from_is_err_and c.from_residual.result c.from_residual.ensures.1 in
    let v = sym (c.version.ensures x w) ∙ c.in_err-msize.was in
    rw (p.1, p.2) (attempted_denied _ _ _ _ _ _ _ _ _ r (λ h. create_no_version _ z c.args.now c.args.fid c.args.name.now c.args.perm c.args.mode r v) (λ h. refl) (version_plain z r v)
    refl refl (λ w n. met.touches_more _ _ w 0 n (omega arith) (met.keeps_touches _ _ w (met.keeps_at_once _))))

pub returns-in_err-from-clause-attempted : goal.returns-in_err-from-clause-attempted
returns-in_err-from-clause-attempted g c =
    let f = c.args.files.now in
    let met = g.met.F.FileOps in
    let w = g.F.FileOps.world f in
    let x = c.args.exclusive.now.items in
    let z = state c.args.self.now x w in
    let r = c.in_err-from.field-0.0 in
    let p = err_from_is_err_and c.from_residual-in_err-from.result c.from_residual-in_err-from.ensures.1 in
    let v = sym (c.version.ensures x w) ∙ c.in_ok-msize.was in
    rw (p.1, p.2) (attempted_denied _ _ _ _ _ _ _ _ _ r (λ h. create_no_fid _ z c.args.now c.args.fid c.args.name.now c.args.perm c.args.mode c.in_ok-msize.msize r v (c.in_err-from.ensures x w)) (λ h. refl) (fid_plain z c.args.fid r (c.in_err-from.ensures x w))
    refl refl (λ w n. met.touches_more _ _ w 0 n (omega arith) (met.keeps_touches _ _ w (met.keeps_at_once _))))

pub returns-in_err-above-clause-attempted : goal.returns-in_err-above-clause-attempted
returns-in_err-above-clause-attempted g c =
    let f = c.args.files.now in
    let met = g.met.F.FileOps in
    let e = served (g.F.FileOps.whole f) (g.F.FileOps.largest f) in
    let w = g.F.FileOps.world f in
    let x = c.args.exclusive.now.items in
    let z = state c.args.self.now x w in
    let r = c.in_err-above.field-0.0 in
    let p = err_from_is_err_and c.from_residual-in_err-above.result c.from_residual-in_err-above.ensures.1 in
    let v = sym (c.version.ensures x w) ∙ c.in_ok-msize.was in
    let denied = rw c.as_slice.ensures at c.in_err-above.ensures.looks in
    rw (p.1, p.2) (attempted_looked _ _ _ _ _ _ _ _ _ (λ e w. admitted_new e w c.in_ok-from.from.now c.args.name.now c.args.perm c.args.mode) r
    (λ h. create_refused e z c.args.now c.args.fid c.args.name.now c.args.perm c.args.mode c.in_ok-msize.msize c.in_ok-from.from.now r v (c.in_ok-from.ensures x w)) denied
    refl refl (λ w n. met.touches_more _ _ w 0 n (omega arith) (met.keeps_touches _ _ w c.admit_new.ensures.keeps)))

pub create-requires-clause-name : goal.create-requires-clause-name
create-requires-clause-name g c = good_name c.args.name.now (named_well c.in_ok-from.from.now c.in_ok-above.above c.args.name.now c.args.perm c.args.mode c.in_ok-above.mode (rw c.as_slice.ensures at c.in_ok-above.ensures.allowed)) c.requires.name

pub create-requires-clause-who : goal.create-requires-clause-who
create-requires-clause-who g c =
    let w = g.F.FileOps.world c.args.files.now in
    let P : Fids → Type 0 = λ s. AreUsers s.fids in
    let Q : List ℕ → Type 0 = λ u. IsUser u in
    subst Q (sym c.in_ok-user.ensures) (user_there (state c.args.self.now [] w) c.args.fid c.in_ok-from.from.now (subst P c.self.view_is c.self.invariant) (c.in_ok-from.ensures [] w))

pub create-requires-clause-uid : goal.create-requires-clause-uid
create-requires-clause-uid g c =
    let w = g.F.FileOps.world c.args.files.now in
    let P : Fids → Type 0 = λ s. AreUsers s.fids in
    let Q : List ℕ → Type 0 = λ u. IsUser u in
    subst Q (sym c.in_ok-user.ensures) (user_there (state c.args.self.now [] w) c.args.fid c.in_ok-from.from.now (subst P c.self.view_is c.self.invariant) (c.in_ok-from.ensures [] w))

pub returns-in_err-info-clause-attempted : goal.returns-in_err-info-clause-attempted
returns-in_err-info-clause-attempted g c =
    let files = c.args.files.now in
    let e = served (g.F.FileOps.whole files) (g.F.FileOps.largest files) in
    let w = g.F.FileOps.world files in
    let x = c.args.exclusive.now.items in
    let z = state c.args.self.now x w in
    let met = g.met.F.FileOps in
    let mid = c.admit_new.new.files in
    let k = c.admit_new.ensures.keeps in
    let b = state_of (g.F.FileOps.whole mid) (g.F.FileOps.largest mid) (g.F.FileOps.world mid) (g.F.FileOps.faults mid) (g.F.FileOps.honest mid) (g.F.FileOps.has_room mid) in
    let f = c.in_ok-from.from.now in
    let above = c.in_ok-above.above in
    let name = c.args.name.now in
    let there = c.in_ok-from.ensures x w in
    let enough = need_there (known c.args.fid c.args.self.now.fids) f (λ f. step.create_need f.place) there in
    let looks = rw c.as_slice.ensures at c.in_ok-above.ensures.looks in
    let p = err_from_is_err_and c.from_residual-in_err-info.result c.from_residual-in_err-info.ensures.1 in
    let answer = rw (c.new_mode-perm.ensures, c.in_ok-user.ensures) at c.in_err-info.ensures.answer in
    let touched = rw (c.new_mode-perm.ensures, c.in_ok-user.ensures) at c.in_err-info.ensures.touches in
    let makes = λ (e : Files) (w : World). step.create e.whole w f.place name (new_mode c.args.perm above.mode) f.user f.user above.gid c.args.now in
    let need = λ (e : Files) (w : World). step.create_need f.place in
    rw (p.1, p.2) (attempted_as _ _ _ _ _ (λ e z. create_file e z c.args.now c.args.fid name c.args.perm c.args.mode) _ (λ e z. step.create_need f.place) _ (step.create_need f.place) _ (λ z. z) _ _ (λ h. refl) (λ h. sym enough) (sym enough) refl
    (changed_refused _ _ _ _ _ _ _ _ _ (λ e w. changed (makes e w)) need (created c.in_ok-msize.msize z f c.in_ok-above.mode)
    (λ h. create_at e z c.args.now c.args.fid name c.args.perm c.args.mode c.in_ok-msize.msize f (above, c.in_ok-above.mode) (sym (c.version.ensures x w) ∙ c.in_ok-msize.was) there (looks.answer h)) (λ p. refl) (λ h. refl) _
    (changes_after _ b _ _ (λ w n. g.F.FileOps.touches mid w n c.create.new.self) (λ e w. changed (makes e w)) need _ _ (follows _ _ (met.keeps_whole _ _ k) (met.keeps_largest _ _ k) (met.keeps_faults _ _ k) (met.keeps_honest _ _ k)) looks.world (λ n. met.keeps_room _ _ n k) (λ w n. met.keeps_then _ _ _ w n k)
    (makes_err b _ _ makes need _ c.in_err-info.field-0.0 answer (λ h. touched) c.in_err-info.ensures.cause (_, touched)))
    (ap (kept c.args.self.now) c.reserve.ensures.items) refl))

pub returns-in_err-user-clause-attempted : goal.returns-in_err-user-clause-attempted
returns-in_err-user-clause-attempted g c =
    let met = g.met.F.FileOps in
    let p = err_from_is_err_and c.from_residual-in_err-user.result c.from_residual-in_err-user.ensures.1 in
    rw p.1 (attempted_no_memory _ _ _ _ _ _ _ _ _ p.0 p.2 c.admit_new.ensures.looks.world refl refl (λ w n. met.touches_more _ _ w 0 n (omega arith) (met.keeps_touches _ _ w c.admit_new.ensures.keeps)))

pub returns-in_err-reserve-clause-attempted : goal.returns-in_err-reserve-clause-attempted
returns-in_err-reserve-clause-attempted g c =
    let met = g.met.F.FileOps in
    let p = err_from_is_err_and c.from_residual-in_err-reserve.result c.from_residual-in_err-reserve.ensures.1 in
    rw p.1 (attempted_no_memory _ _ _ _ _ _ _ _ _ p.0 p.2 c.admit_new.ensures.looks.world (ap (kept c.args.self.now) c.reserve.ensures.items) refl (λ w n. met.touches_more _ _ w 0 n (omega arith) (met.keeps_touches _ _ w c.admit_new.ensures.keeps)))

pub put_open-requires-clause-user : goal.put_open-requires-clause-user
put_open-requires-clause-user g c =
    let w = g.F.FileOps.world c.args.files.now in
    let P : Fids → Type 0 = λ s. AreUsers s.fids in
    let Q : List ℕ → Type 0 = λ u. IsUser u in
    let same : c.open_fid.result.user ≡ c.in_ok-from.from.now.user = ap (λ (y : Fid). y.user) c.open_fid.ensures ∙ c.in_ok-user.ensures in
    subst Q (sym same) (user_there (state c.args.self.now [] w) c.args.fid c.in_ok-from.from.now (subst P c.self.view_is c.self.invariant) (c.in_ok-from.ensures [] w))

pub returns-clause-attempted : goal.returns-clause-attempted
returns-clause-attempted g c =
    let files = c.args.files.now in
    let e = served (g.F.FileOps.whole files) (g.F.FileOps.largest files) in
    let w = g.F.FileOps.world files in
    let w' = g.F.FileOps.world c.create.new.self in
    let x = c.args.exclusive.now.items in
    let z = state c.args.self.now x w in
    let met = g.met.F.FileOps in
    let mid = c.admit_new.new.files in
    let k = c.admit_new.ensures.keeps in
    let b = state_of (g.F.FileOps.whole mid) (g.F.FileOps.largest mid) (g.F.FileOps.world mid) (g.F.FileOps.faults mid) (g.F.FileOps.honest mid) (g.F.FileOps.has_room mid) in
    let f = c.in_ok-from.from.now in
    let above = c.in_ok-above.above in
    let mode = c.in_ok-above.mode in
    let info = c.in_ok-info.info in
    let name = c.args.name.now in
    let there = c.in_ok-from.ensures x w in
    let enough = need_there (known c.args.fid c.args.self.now.fids) f (λ f. step.create_need f.place) there in
    let looks = rw c.as_slice.ensures at c.in_ok-above.ensures.looks in
    let answer = rw (c.new_mode-perm.ensures, c.in_ok-user.ensures) at c.in_ok-info.ensures.answer in
    let touched = rw (c.new_mode-perm.ensures, c.in_ok-user.ensures) at c.in_ok-info.ensures.touches in
    let makes = λ (e : Files) (w : World). step.create e.whole w f.place name (new_mode c.args.perm above.mode) f.user f.user above.gid c.args.now in
    let need = λ (e : Files) (w : World). step.create_need f.place in
    let held = c.is_exclusive-held.ensures in
    let made = fid_made c.open_fid.result c.args.fid f.number _ f.user info.place info.place _ (opened_so mode (is_exclusive info.mode)) c.open_fid.ensures (sym (number_there z c.args.fid f there)) c.in_ok-user.ensures refl (ap (opened_so mode) held) in
    let put = c.put_open.ensures w' ∙ put_is_open c.args.self.now x c.reserve.new.self.items w w' f c.open_fid.result info.place mode (is_exclusive info.mode) c.is_exclusive-held.result c.reserve.ensures.items held made in
    attempted_as _ _ _ _ _ (λ e z. create_file e z c.args.now c.args.fid name c.args.perm c.args.mode) _ (λ e z. step.create_need f.place) _ (step.create_need f.place) _ (λ z. z) _ _ (λ h. refl) (λ h. sym enough) (sym enough) refl
    (changed_done _ _ _ _ _ _ _ _ _ (λ e w. changed (makes e w)) need (created c.in_ok-msize.msize z f mode)
    (λ h. create_at e z c.args.now c.args.fid name c.args.perm c.args.mode c.in_ok-msize.msize f (above, mode) (sym (c.version.ensures x w) ∙ c.in_ok-msize.was) there (looks.answer h)) (λ p. refl) (λ h. refl) _ info
    (changes_after _ b _ _ (λ w n. g.F.FileOps.touches mid w n c.create.new.self) (λ e w. changed (makes e w)) need _ _ (follows _ _ (met.keeps_whole _ _ k) (met.keeps_largest _ _ k) (met.keeps_faults _ _ k) (met.keeps_honest _ _ k)) looks.world (λ n. met.keeps_room _ _ n k) (λ w n. met.keeps_then _ _ _ w n k)
    (makes_ok b _ _ makes need _ info answer (λ h. c.in_ok-info.ensures.room) (λ h. touched) (_, touched)))
    (λ h. create_replies (qid_of info) c.qid_of-qid.result (iounit c.in_ok-msize.msize) c.saturating_sub.result _ _ c.qid_of-qid.ensures c.saturating_sub.ensures put))

pub returns-clause-room : goal.returns-clause-room
returns-clause-room g c =
    let x = c.args.exclusive.now.items in
    let there = c.in_ok-from.ensures x (g.F.FileOps.world c.args.files.now) in
    let enough = need_there (known c.args.fid c.args.self.now.fids) c.in_ok-from.from.now (λ f. step.create_need f.place) there in
    λ n has. rw enough (c.in_ok-info.ensures.room n (g.met.F.FileOps.keeps_room _ _ n c.admit_new.ensures.keeps has))
