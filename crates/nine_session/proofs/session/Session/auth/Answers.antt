use Rattle.std.proofs.Common.{sym}
use Rattle.std.proofs.lemmas.Result.{err_from_is_err_and}
use Rattle.nine_session.specs.Attempting.{state}
use Rattle.nine_session.proofs.Starts.{auth_denied, auth_refused}
use Rattle.nine_session.proofs.session.Session.auth.Goals as goal

pub returns-in_err-version-clause-replies : goal.returns-in_err-version-clause-replies
returns-in_err-version-clause-replies c = λ x w.
    let p = err_from_is_err_and c.from_residual.result c.from_residual.ensures.1 in
    rw (p.1, p.2) (auth_refused (state c.args.self.now x w) c.in_err-version.field-0.0 (sym (c.in_err-version.ensures x w)))

pub returns-clause-replies : goal.returns-clause-replies
returns-clause-replies c = λ x w. auth_denied (state c.args.self.now x w) _ (sym (c.in_ok-version.ensures x w))
