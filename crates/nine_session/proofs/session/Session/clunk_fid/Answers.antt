use Rattle.std.proofs.Common.{◌≡◌, ap, refl, ◌∙◌, sym}
use Rattle.std.proofs.lemmas.Result.{err_from_is_err_and}
use Rattle.nine_wire.specs.declared.message.Reply.TheVariants as reply
use Rattle.nine_fids.specs.Fids.{State, clunked, in_world}
use Rattle.nine_files.specs.Removing.{close_need, closed}
use Rattle.nine_session.specs.Attempting.{state}
use Rattle.nine_session.specs.Session.{kept_of}
use Rattle.nine_session.proofs.Attempted.{led_granted, led_refused}
use Rattle.nine_session.proofs.Ends.{clunk_chain, gone_is}
use Rattle.nine_session.proofs.Kept.{fid_user}
use Rattle.nine_session.proofs.session.Session.clunk_fid.Goals as goal

pub remove_on_close-removed-requires-clause-user : goal.remove_on_close-removed-requires-clause-user
remove_on_close-removed-requires-clause-user g c =
    fid_user c.args.number c.self.inside.fids.items c.in-Some.fid.now c.self.invariant (rw c.as_slice.ensures.value at c.in-Some.ensures)

pub returns-in_err-removed-clause-attempted : goal.returns-in_err-removed-clause-attempted
returns-in_err-removed-clause-attempted g c = λ f is.
    let w = g.F.FileOps.world c.args.files.now in
    let z : State = state c.args.self.now c.args.exclusive.now.items w in
    let p = err_from_is_err_and c.from_residual.result c.from_residual.ensures.1 in
    let found = rw (c.as_slice.ensures.value, ap (λ s. s.fids) c.self.view_is) at c.in-Some.ensures in
    let same : c.in-Some.fid.now ≡ f = cc in
    let leads = rw same at c.in_err-removed.ensures in
    rw (p.1, p.2) (led_refused _ _ _ _ _ _ _ _ _ (λ e v. closed e v f c.args.now) (λ e v. close_need e v f) (λ v. (reply.Clunk, clunked (in_world z v) f))
    (λ h. clunk_chain _ z c.args.now f) (λ v. refl) (λ h. refl) c.in_err-removed.field-0.0 leads
    (ap kept_of (c.let_go.ensures w ∙ gone_is z c.args.number f is)) refl)

pub returns-clause-attempted : goal.returns-clause-attempted
returns-clause-attempted g c = λ f is.
    let w = g.F.FileOps.world c.args.files.now in
    let then = g.F.FileOps.world c.remove_on_close-removed.new.files in
    let z : State = state c.args.self.now c.args.exclusive.now.items w in
    let found = rw (c.as_slice.ensures.value, ap (λ s. s.fids) c.self.view_is) at c.in-Some.ensures in
    let same : c.in-Some.fid.now ≡ f = cc in
    let leads = rw same at c.in_ok-removed.ensures in
    led_granted _ _ _ _ _ _ _ _ _ (λ e v. closed e v f c.args.now) (λ e v. close_need e v f) (λ v. (reply.Clunk, clunked (in_world z v) f))
    (λ h. clunk_chain _ z c.args.now f) (λ v. refl) (λ h. refl) reply.Clunk leads
    (λ h. ap (λ (v : State). (reply.Clunk, v)) (sym (c.let_go.ensures then ∙ gone_is (state c.args.self.now c.args.exclusive.now.items then) c.args.number f is)))
