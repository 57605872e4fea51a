use Rattle.std.proofs.lemmas.Result.{err_from_is_err_and}
use Rattle.venti_store.proofs.arena.Arena.get.Goals as goal

pub returns-in_err-bytes-clause-held : goal.returns-in_err-bytes-clause-held
returns-in_err-bytes-clause-held g c stored synced k =
    let p = err_from_is_err_and c.from_residual.result c.from_residual.ensures.1 in
    rw (p.1, p.2) (c.in_err-bytes.ensures.held stored synced k)

pub returns-in-Some-clause-held : goal.returns-in-Some-clause-held
returns-in-Some-clause-held g c stored synced k = rw c.in-Some.is at (c.in_ok-bytes.ensures.held stored synced k)
