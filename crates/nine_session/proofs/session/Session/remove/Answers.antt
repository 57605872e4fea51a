use Rattle.std.proofs.Common.{◌≡◌, ap, refl, sym, ◌∙◌, Err, Ok, Some, None, arith}
use Rattle.std.proofs.lemmas.Result.{err_from_is_err_and}
use Rattle.nine_wire.specs.declared.message.Reply.TheVariants as reply
use Rattle.nine_fids.specs.Fids.{State, known, version_of, fid_at, clunked, in_world}
use Rattle.nine_fids.specs.declared.refusal.Refusal.TheVariants as refusal
use Rattle.nine_files.specs.Removing.{remove_need, removed_there}
use Rattle.nine_session.specs.Attempting.{state}
use Rattle.nine_session.specs.Removing.{remove}
use Rattle.nine_session.specs.Session.{kept_of, without_fid}
use Rattle.nine_session.proofs.Attempted.{attempted_denied, attempted_as, led_granted, led_refused}
use Rattle.nine_session.proofs.Ends.{gone_is, left_as_was, left_known, left_unknown, version_plain, remove_known, remove_no_version, remove_unknown, some_err, fid_plain}
use Rattle.nine_session.proofs.Kept.{fid_user, known_fid, need_there}
use Rattle.nine_session.proofs.Links.{ok_or_ok}
use Rattle.nine_session.proofs.session.Session.remove.Goals as goal

pub returns-in_err-version-clause-attempted : goal.returns-in_err-version-clause-attempted
returns-in_err-version-clause-attempted g c =
    let f = c.args.files.now in
    let met = g.met.F.FileOps in
    let z : State = state c.args.self.now c.args.exclusive.now.items (g.F.FileOps.world f) in
    let r = c.in_err-version.field-0.0 in
    let p = err_from_is_err_and c.from_residual.result c.from_residual.ensures.1 in
    let v : version_of z ≡ Err r = sym (c.in_err-version.ensures z.exclusive z.world) in
    let left = left_as_was z z.session.msize (known c.args.fid z.session.fids) refusal.NoVersion r v in
    rw (p.1, p.2) (attempted_denied _ _ _ _ _ _ _ _ _ r (λ h. remove_no_version _ z c.args.now c.args.fid r v) (λ h. refl) (version_plain z r v)
    (ap kept_of (sym left)) (ap (λ (x : State). x.world) left) (λ w n. met.touches_more _ _ w 0 n (omega arith) (met.keeps_touches _ _ w (met.keeps_at_once _))))

pub returns-in_err-from-clause-attempted : goal.returns-in_err-from-clause-attempted
returns-in_err-from-clause-attempted g c =
    let f = c.args.files.now in
    let met = g.met.F.FileOps in
    let z : State = state c.args.self.now c.args.exclusive.now.items (g.F.FileOps.world f) in
    let r = c.in_err-from.field-0.0 in
    let p = err_from_is_err_and c.from_residual-in_err-from.result c.from_residual-in_err-from.ensures.1 in
    let v : version_of z ≡ Ok _ = sym (c.in_ok-version.ensures z.exclusive z.world) in
    let k : fid_at z c.args.fid ≡ Err r = c.in_err-from.ensures z.exclusive z.world in
    let none : known c.args.fid z.session.fids ≡ None = some_err _ refusal.UnknownFid r k in
    let left = ap (without_fid z z.session.msize) none ∙ left_unknown z z.session.msize in
    rw (p.1, p.2) (attempted_denied _ _ _ _ _ _ _ _ _ r (λ h. remove_unknown _ z c.args.now c.args.fid _ r v k) (λ h. refl) (fid_plain z c.args.fid r k)
    (ap kept_of (sym left)) (ap (λ (x : State). x.world) left) (λ w n. met.touches_more _ _ w 0 n (omega arith) (met.keeps_touches _ _ w (met.keeps_at_once _))))

pub remove_there-removed-requires-clause-user : goal.remove_there-removed-requires-clause-user
remove_there-removed-requires-clause-user g c =
    let fids = c.self.inside.fids.items in
    let k = rw (← c.self.view_is) at (c.in_ok-from.ensures c.args.exclusive.now.items (g.F.FileOps.world c.args.files.now)) in
    fid_user c.args.fid fids _ c.self.invariant (known_fid c.args.fid fids _ (ok_or_ok _ refusal.UnknownFid _ k))

pub returns-in_err-removed-clause-attempted : goal.returns-in_err-removed-clause-attempted
returns-in_err-removed-clause-attempted g c =
    let here = c.args.files.now in
    let w = g.F.FileOps.world here in
    let z : State = state c.args.self.now c.args.exclusive.now.items w in
    let f = c.in_ok-from.from.now in
    let p = err_from_is_err_and c.from_residual-in_err-removed.result c.from_residual-in_err-removed.ensures.1 in
    let v : version_of z ≡ Ok _ = sym (c.in_ok-version.ensures z.exclusive z.world) in
    let k = c.in_ok-from.ensures z.exclusive z.world in
    let is : known c.args.fid z.session.fids ≡ Some _ = ok_or_ok _ refusal.UnknownFid _ k in
    let found = known_fid c.args.fid z.session.fids _ is in
    rw (p.1, p.2) (attempted_as _ _ _ _ _ (λ e x. remove e x c.args.now c.args.fid) _ (λ e x. remove_need f) _ (remove_need f) _ (λ x. clunked x f) _ _ (λ h. refl)
    (λ h. sym (need_there (known c.args.fid z.session.fids) f remove_need k))
    (sym (need_there (known c.args.fid z.session.fids) f remove_need k))
    (sym (ap (without_fid z z.session.msize) is ∙ left_known z z.session.msize f refusal.NoVersion _ v))
    (led_refused _ _ _ _ _ _ _ _ _ (λ e v. removed_there e v f c.args.now) (λ e v. remove_need f) (λ v. (reply.Remove, clunked (in_world z v) f))
    (λ h. remove_known _ z c.args.now c.args.fid _ f v k) (λ v. refl) (λ h. refl) c.in_err-removed.field-0.0 c.in_err-removed.ensures.changes
    (ap kept_of (c.let_go.ensures w ∙ gone_is z c.args.fid f found)) refl))

pub returns-clause-attempted : goal.returns-clause-attempted
returns-clause-attempted g c =
    let here = c.args.files.now in
    let w = g.F.FileOps.world here in
    let then = g.F.FileOps.world c.remove_there-removed.new.files in
    let z : State = state c.args.self.now c.args.exclusive.now.items w in
    let f = c.in_ok-from.from.now in
    let v : version_of z ≡ Ok _ = sym (c.in_ok-version.ensures z.exclusive z.world) in
    let k = c.in_ok-from.ensures z.exclusive z.world in
    let is : known c.args.fid z.session.fids ≡ Some _ = ok_or_ok _ refusal.UnknownFid _ k in
    let found = known_fid c.args.fid z.session.fids _ is in
    attempted_as _ _ _ _ _ (λ e x. remove e x c.args.now c.args.fid) _ (λ e x. remove_need f) _ (remove_need f) _ (λ x. clunked x f) _ _ (λ h. refl)
    (λ h. sym (need_there (known c.args.fid z.session.fids) f remove_need k))
    (sym (need_there (known c.args.fid z.session.fids) f remove_need k))
    (sym (ap (without_fid z z.session.msize) is ∙ left_known z z.session.msize f refusal.NoVersion _ v))
    (led_granted _ _ _ _ _ _ _ _ _ (λ e v. removed_there e v f c.args.now) (λ e v. remove_need f) (λ v. (reply.Remove, clunked (in_world z v) f))
    (λ h. remove_known _ z c.args.now c.args.fid _ f v k) (λ v. refl) (λ h. refl) reply.Remove c.in_ok-removed.ensures.changes
    (λ h. ap (λ (s : State). (reply.Remove, s)) (sym (c.let_go.ensures then ∙ gone_is (state c.args.self.now c.args.exclusive.now.items then) c.args.fid f found))))

pub returns-clause-room : goal.returns-clause-room
returns-clause-room g c =
    let z : State = state c.args.self.now c.args.exclusive.now.items (g.F.FileOps.world c.args.files.now) in
    let enough = need_there (known c.args.fid z.session.fids) c.in_ok-from.from.now remove_need (c.in_ok-from.ensures z.exclusive z.world) in
    λ n has. rw enough (c.in_ok-removed.ensures.room n has)
