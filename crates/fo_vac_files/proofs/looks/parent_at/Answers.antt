use Rattle.std.proofs.Common.{refl}
use Rattle.std.proofs.lemmas.Result.{err_from_is_err_and}
use Rattle.fo_vac_files.specs.Vac.{world_of}
use Rattle.fo_vac_walk.proofs.Blocks.{still_told}
use Rattle.fo_vac_files.proofs.Saying.{parent_said, parent_tells}
use Rattle.fo_vac_files.proofs.looks.parent_at.Goals as goal

pub returns-in_err-_file-clause-held : goal.returns-in_err-_file-clause-held
returns-in_err-_file-clause-held g c = λ h k.
    let p = err_from_is_err_and c.from_residual.result c.from_residual.ensures.1 in
    rw (p.1, p.2) (parent_said h c.args.opened.now _ _ c.in_err-_file.field-0.0 (c.in_err-_file.ensures.held h k))

pub returns-clause-held : goal.returns-clause-held
returns-clause-held g c = λ h k.
    let o = c.args.opened.now in
    parent_tells h o o.found.root.epoch (world_of h o) c.args.at.now (record { view = c.args.at.now.view; trail = c.in_ok-trail.trail }) c.in_ok-_file._file c.info_at.result c.requires refl c.in_ok-trail.ensures
    (c.in_ok-_file.ensures.held h k) (c.info_at.ensures.held h (still_told h _ _ _ _ c.in_ok-_file.ensures.shelf c.in_ok-_file.ensures.kept k))
