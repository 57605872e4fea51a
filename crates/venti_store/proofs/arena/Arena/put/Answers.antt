use Rattle.std.proofs.lemmas.Result.{err_from_is_err_and}
use Rattle.venti_store.proofs.arena.Arena.put.Goals as goal

pub returns-in_err-put_hashed-clause-keeps : goal.returns-in_err-put_hashed-clause-keeps
returns-in_err-put_hashed-clause-keeps g c stored synced k =
    let p = err_from_is_err_and c.from_residual.result c.from_residual.ensures.1 in
    rw (p.1, p.2) (c.in_err-put_hashed.ensures.keeps stored synced k)
