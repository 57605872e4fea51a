use Rattle.std.proofs.Common.{◌≡◌, ap, refl, sym, ◌∙◌, Err, Ok, Some, None, arith}
use Rattle.std.proofs.lemmas.Result.{err_from_is_err_and}
use Rattle.nine_fids.specs.Fids.{State, known, version_of, fid_at}
use Rattle.nine_fids.specs.declared.refusal.Refusal.TheVariants as refusal
use Rattle.nine_files.specs.Removing.{close_need, most_close}
use Rattle.nine_session.specs.Attempting.{state}
use Rattle.nine_session.specs.Session.{kept_of, without_fid}
use Rattle.nine_session.proofs.Attempted.{attempted_as, attempted_denied}
use Rattle.nine_session.proofs.Ends.{clunk_known, clunk_no_version, clunk_unknown, left_as_was, left_known, left_unknown, version_plain, some_err, fid_plain}
use Rattle.nine_session.proofs.Kept.{known_fid, need_there}
use Rattle.nine_session.proofs.Links.{ok_or_ok}
use Rattle.nine_session.proofs.session.Session.clunk.Goals as goal

pub returns-in_err-version-clause-attempted : goal.returns-in_err-version-clause-attempted
returns-in_err-version-clause-attempted g c =
    let f = c.args.files.now in
    let met = g.met.F.FileOps in
    let z : State = state c.args.self.now c.args.exclusive.now.items (g.F.FileOps.world f) in
    let r = c.in_err-version.field-0.0 in
    let p = err_from_is_err_and c.from_residual.result c.from_residual.ensures.1 in
    let v : version_of z ≡ Err r = sym (c.in_err-version.ensures z.exclusive z.world) in
    let left = left_as_was z z.session.msize (known c.args.fid z.session.fids) refusal.NoVersion r v in
    rw (p.1, p.2) (attempted_denied _ _ _ _ _ _ _ _ _ r (λ h. clunk_no_version _ z c.args.now c.args.fid r v) (λ h. refl) (version_plain z r v)
    (ap kept_of (sym left)) (ap (λ (x : State). x.world) left) (λ w n. met.touches_more _ _ w 0 n (omega arith) (met.keeps_touches _ _ w (met.keeps_at_once _))))

pub returns-in_err-fid-clause-attempted : goal.returns-in_err-fid-clause-attempted
returns-in_err-fid-clause-attempted g c =
    let f = c.args.files.now in
    let met = g.met.F.FileOps in
    let z : State = state c.args.self.now c.args.exclusive.now.items (g.F.FileOps.world f) in
    let r = c.in_err-fid.field-0.0 in
    let p = err_from_is_err_and c.from_residual-in_err-fid.result c.from_residual-in_err-fid.ensures.1 in
    let v : version_of z ≡ Ok _ = sym (c.in_ok-version.ensures z.exclusive z.world) in
    let k : fid_at z c.args.fid ≡ Err r = c.in_err-fid.ensures z.exclusive z.world in
    let none : known c.args.fid z.session.fids ≡ None = some_err _ refusal.UnknownFid r k in
    let left = ap (without_fid z z.session.msize) none ∙ left_unknown z z.session.msize in
    rw (p.1, p.2) (attempted_denied _ _ _ _ _ _ _ _ _ r (λ h. clunk_unknown _ z c.args.now c.args.fid _ r v k) (λ h. refl) (fid_plain z c.args.fid r k)
    (ap kept_of (sym left)) (ap (λ (x : State). x.world) left) (λ w n. met.touches_more _ _ w 0 n (omega arith) (met.keeps_touches _ _ w (met.keeps_at_once _))))

pub returns-clause-attempted : goal.returns-clause-attempted
returns-clause-attempted g c =
    let f = c.args.files.now in
    let z : State = state c.args.self.now c.args.exclusive.now.items (g.F.FileOps.world f) in
    let v : version_of z ≡ Ok _ = sym (c.in_ok-version.ensures z.exclusive z.world) in
    let k = c.in_ok-fid.ensures z.exclusive z.world in
    let is : known c.args.fid z.session.fids ≡ Some _ = ok_or_ok _ refusal.UnknownFid _ k in
    let found = known_fid c.args.fid z.session.fids _ is in
    attempted_as _ _ _ _ _ _ _ _ _ _ _ _ _ _ (λ h. sym (clunk_known _ z c.args.now c.args.fid _ _ v k))
    (λ h. sym (need_there (known c.args.fid z.session.fids) _ (close_need _ z.world) k))
    (sym (need_there (known c.args.fid z.session.fids) _ most_close k))
    (sym (ap (without_fid z z.session.msize) is ∙ left_known z z.session.msize _ refusal.NoVersion _ v))
    (c.clunk_fid.ensures.attempted _ found)
