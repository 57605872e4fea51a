use Rattle.std.proofs.lemmas.Result.{err_from_is_err_and}
use Rattle.fo_vac_walk.proofs.Blocks.{still_told}
use Rattle.fo_vac_dir.proofs.folder.Folder.folder.Goals as goal

pub returns-in_err-entries-clause-held : goal.returns-in_err-entries-clause-held
returns-in_err-entries-clause-held g c = λ h w told is.
    let p = err_from_is_err_and c.from_residual.result c.from_residual.ensures.1 in
    rw (p.1, p.2) (c.in_err-entries.ensures.held h w told is)

pub returns-in_err-meta-clause-held : goal.returns-in_err-meta-clause-held
returns-in_err-meta-clause-held g c = λ h w told is.
    let p = err_from_is_err_and c.from_residual-in_err-meta.result c.from_residual-in_err-meta.ensures.1 in
    rw (p.1, p.2) (c.in_err-meta.ensures.held h w (still_told h _ _ _ _ c.in_ok-entries.ensures.shelf c.in_ok-entries.ensures.kept told) is)
