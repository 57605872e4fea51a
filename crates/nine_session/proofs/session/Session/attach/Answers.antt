use Rattle.std.proofs.Common.{◌≡◌, ◌≤◌, ◌<◌, ap, ◌∙◌, sym, refl, Ok, true, false, length, Some, None, arith}
use Rattle.std.proofs.lemmas.Result.{err_from_is_err_and}
use Rattle.fo_world.specs.Step as step
use Rattle.nine_fids.specs.Fids.{State, most_fids, in_use}
use Rattle.nine_fids.specs.Rights.{table_of}
use Rattle.nine_fids.specs.Told.{served, info_at}
use Rattle.nine_fids.proofs.Missing.{ok_same}
use Rattle.nine_fids.proofs.Seeing.{follows, told_at}
use Rattle.nine_session.specs.Attaching.{tree_of}
use Rattle.nine_session.specs.Attempting.{state}
use Rattle.nine_session.proofs.Looked.{denied, failed_later, granted, missed, same_fids, version_plain, wants}
use Rattle.nine_session.proofs.Starts.{Asks, HasRoom, attach_auth, attach_granted, attach_in_use, attach_many, attach_no_version, attach_refused, attach_unknown}
use Rattle.nine_session.proofs.session.Session.attach.Goals as goal

pub returns-in_err-version-clause-looked : goal.returns-in_err-version-clause-looked
returns-in_err-version-clause-looked g c = λ x.
    let w = g.F.FileOps.world c.args.files.now in
    let p = err_from_is_err_and c.from_residual.result c.from_residual.ensures.1 in
    let z : State = state c.args.self.now x w in
    let none = sym (c.in_err-version.ensures x w) in
    rw (p.1, p.2) (denied _ _ _ _ c.in_err-version.field-0.0 (λ h. refl) (λ h. attach_no_version _ z c.args.fid c.args.afid c.args.uname.now c.args.aname.now c.in_err-version.field-0.0 none) (version_plain z c.in_err-version.field-0.0 none))

pub returns-then-afid-ne-NOFID-clause-looked : goal.returns-then-afid-ne-NOFID-clause-looked
returns-then-afid-ne-NOFID-clause-looked g c = λ x.
    let w = g.F.FileOps.world c.args.files.now in
    let z : State = state c.args.self.now x w in
    denied _ _ _ _ _ (λ h. refl) (λ h. attach_auth _ z c.args.fid c.args.afid c.args.uname.now c.args.aname.now c.in_ok-version.field-0 (sym (c.in_ok-version.ensures x w)) c.if-afid-ne-NOFID.true) refl

pub returns-then-in_use-clause-looked : goal.returns-then-in_use-clause-looked
returns-then-in_use-clause-looked g c = λ x.
    let w = g.F.FileOps.world c.args.files.now in
    let z : State = state c.args.self.now x w in
    let q : Asks z c.args.afid = record { msize = c.in_ok-version.field-0; version = sym (c.in_ok-version.ensures x w); none = c.if-afid-ne-NOFID.false } in
    let used : in_use c.args.fid z.session.fids ≡ true = rw (← ap (λ s. s.fids) c.self.view_is, ← c.as_slice.ensures.value) (sym c.in_use.ensures ∙ c.if-in_use.true) in
    denied _ _ _ _ _ (λ h. refl) (λ h. attach_in_use _ z c.args.fid c.args.afid c.args.uname.now c.args.aname.now q used) refl

pub returns-then-len-ge-MOST_FIDS-clause-looked : goal.returns-then-len-ge-MOST_FIDS-clause-looked
returns-then-len-ge-MOST_FIDS-clause-looked g c = λ x.
    let w = g.F.FileOps.world c.args.files.now in
    let z : State = state c.args.self.now x w in
    let q : Asks z c.args.afid = record { msize = c.in_ok-version.field-0; version = sym (c.in_ok-version.ensures x w); none = c.if-afid-ne-NOFID.false } in
    let used : in_use c.args.fid z.session.fids ≡ false = rw (← ap (λ s. s.fids) c.self.view_is, ← c.as_slice.ensures.value) (sym c.in_use.ensures ∙ c.if-in_use.false) in
    let many : most_fids ≤ length z.session.fids = rw (← ap (λ s. s.fids) c.self.view_is, ← c.as_slice.ensures.value) (omega (arith, c.len.ensures, c.as_slice.ensures.len)) in
    denied _ _ _ _ _ (λ h. refl) (λ h. attach_many _ z c.args.fid c.args.afid c.args.uname.now c.args.aname.now q used many) refl

pub returns-in_default-clause-looked : goal.returns-in_default-clause-looked
returns-in_default-clause-looked g c = λ x.
    let w = g.F.FileOps.world c.args.files.now in
    let z : State = state c.args.self.now x w in
    let q : Asks z c.args.afid = record { msize = c.in_ok-version.field-0; version = sym (c.in_ok-version.ensures x w); none = c.if-afid-ne-NOFID.false } in
    let used : in_use c.args.fid z.session.fids ≡ false = rw (← ap (λ s. s.fids) c.self.view_is, ← c.as_slice.ensures.value) (sym c.in_use.ensures ∙ c.if-in_use.false) in
    let fewer : length z.session.fids < most_fids = rw (← ap (λ s. s.fids) c.self.view_is, ← c.as_slice.ensures.value) (omega (arith, c.len.ensures, c.as_slice.ensures.len)) in
    let room : HasRoom z c.args.fid = record { unused = used; fewer = fewer } in
    let none : tree_of c.args.aname.now ≡ None = rw (← c.as_slice-2.ensures) (sym c.tree_of.ensures ∙ c.in_default.is) in
    denied _ _ _ _ _ (λ h. refl) (λ h. attach_unknown _ z c.args.fid c.args.afid c.args.uname.now c.args.aname.now q room none) refl

pub returns-in_err-info-clause-looked : goal.returns-in_err-info-clause-looked
returns-in_err-info-clause-looked g c = λ x.
    let w = g.F.FileOps.world c.args.files.now in
    let z : State = state c.args.self.now x w in
    let q : Asks z c.args.afid = record { msize = c.in_ok-version.field-0; version = sym (c.in_ok-version.ensures x w); none = c.if-afid-ne-NOFID.false } in
    let used : in_use c.args.fid z.session.fids ≡ false = rw (← ap (λ s. s.fids) c.self.view_is, ← c.as_slice.ensures.value) (sym c.in_use.ensures ∙ c.if-in_use.false) in
    let fewer : length z.session.fids < most_fids = rw (← ap (λ s. s.fids) c.self.view_is, ← c.as_slice.ensures.value) (omega (arith, c.len.ensures, c.as_slice.ensures.len)) in
    let room : HasRoom z c.args.fid = record { unused = used; fewer = fewer } in
    let p = err_from_is_err_and c.from_residual-in_err-info.result c.from_residual-in_err-info.ensures.1 in
    let tree : tree_of c.args.aname.now ≡ Some c.in-Some.view = rw (← c.as_slice-2.ensures) (sym c.in-Some.ensures) in
    let looks = rw c.root-place.ensures at c.in_err-info.ensures.looks in
    rw (p.1, p.2) (missed _ _ _ (λ e w. info_at e w (step.root_at c.in-Some.view)) _ c.in_err-info.field-0.0 (λ h. attach_refused _ z c.args.fid c.args.afid c.args.uname.now c.args.aname.now q room c.in-Some.view c.in_err-info.field-0.0 tree) looks)

pub returns-in_err-users-clause-looked : goal.returns-in_err-users-clause-looked
returns-in_err-users-clause-looked g c = λ x.
    let met = g.met.F.FileOps in
    let k = c.info_at.ensures.keeps in
    let p = err_from_is_err_and c.from_residual-in_err-users.result c.from_residual-in_err-users.ensures.1 in
    rw (p.1, p.2) (failed_later _ _ _ _ table_of _ c.in_err-users.field-0.0 (follows _ _ (met.keeps_whole _ _ k) (met.keeps_largest _ _ k) (met.keeps_faults _ _ k) (met.keeps_honest _ _ k)) c.info_at.ensures.looks.world c.in_err-users.ensures.looks)

pub returns-in_err-user-clause-looked : goal.returns-in_err-user-clause-looked
returns-in_err-user-clause-looked g c = λ x.
    let met = g.met.F.FileOps in
    let k = c.info_at.ensures.keeps in
    let p = err_from_is_err_and c.from_residual-in_err-user.result c.from_residual-in_err-user.ensures.1 in
    rw (p.1, p.2) (wants _ _ _ _ _ c.in_err-user.field-0.0 c.in_err-user.ensures.memory refl (λ h. c.table_of.ensures.looks.world (met.keeps_honest _ _ k h) ∙ c.info_at.ensures.looks.world h))

pub returns-clause-looked : goal.returns-clause-looked
returns-clause-looked g c = λ x.
    let f = c.args.files.now in
    let e = served (g.F.FileOps.whole f) (g.F.FileOps.largest f) in
    let w = g.F.FileOps.world f in
    let z : State = state c.args.self.now x w in
    let q : Asks z c.args.afid = record { msize = c.in_ok-version.field-0; version = sym (c.in_ok-version.ensures x w); none = c.if-afid-ne-NOFID.false } in
    let used : in_use c.args.fid z.session.fids ≡ false = rw (← ap (λ s. s.fids) c.self.view_is, ← c.as_slice.ensures.value) (sym c.in_use.ensures ∙ c.if-in_use.false) in
    let fewer : length z.session.fids < most_fids = rw (← ap (λ s. s.fids) c.self.view_is, ← c.as_slice.ensures.value) (omega (arith, c.len.ensures, c.as_slice.ensures.len)) in
    let room : HasRoom z c.args.fid = record { unused = used; fewer = fewer } in
    let met = g.met.F.FileOps in
    let k = c.info_at.ensures.keeps in
    let tree : tree_of c.args.aname.now ≡ Some c.in-Some.view = rw (← c.as_slice-2.ensures) (sym c.in-Some.ensures) in
    granted _ _ _ _ _ _ (λ h.
    let looks = rw c.root-place.ensures at c.in_ok-info.ensures.looks.answer h in
    let table : table_of e w ≡ c.in_ok-users.users.now = ok_same _ _ (told_at _ _ (λ e w. Ok (table_of e w)) _ _ _ _ (met.keeps_whole _ _ k) (met.keeps_largest _ _ k) (c.info_at.ensures.looks.world h) c.in_ok-users.ensures.looks (met.keeps_honest _ _ k h)) in
    let same : g.F.FileOps.world c.table_of.new.files ≡ w = c.table_of.ensures.looks.world (met.keeps_honest _ _ k h) ∙ c.info_at.ensures.looks.world h in
    rw (attach_granted e z c.args.fid c.args.afid c.args.uname.now c.args.aname.now q room c.in-Some.view c.in_ok-info.info tree looks, c.qid_of.ensures, same, c.in_ok-push.ensures.items, c.root-place.ensures, c.in_ok-user.ensures.user, ← table, ← c.self.view_is) refl)

pub returns-in_err-push-clause-looked : goal.returns-in_err-push-clause-looked
returns-in_err-push-clause-looked g c = λ x.
    let met = g.met.F.FileOps in
    let k = c.info_at.ensures.keeps in
    let p = err_from_is_err_and c.from_residual-in_err-push.result c.from_residual-in_err-push.ensures.1 in
    rw (p.1, p.2) (wants _ _ _ _ _ _ refl (same_fids _ _ x _ c.self.view_is c.in_err-push.ensures.items) (λ h. c.table_of.ensures.looks.world (met.keeps_honest _ _ k h) ∙ c.info_at.ensures.looks.world h))
