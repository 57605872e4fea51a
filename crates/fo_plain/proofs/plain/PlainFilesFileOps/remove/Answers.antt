use Rattle.std.proofs.Common.{true}
use Rattle.std.proofs.lemmas.Result.{err_from_is_err_and}
use Rattle.fo_world.proofs.Fits.{remove-fits}
use Rattle.fo_plain.specs.Kept.{kept}
use Rattle.fo_plain.proofs.Causes.{remove-own, cause-of}
use Rattle.fo_plain.proofs.plain.PlainFilesFileOps.remove.Goals as goal

pub returns-in_err-name-clause-cause : goal.returns-in_err-name-clause-cause
returns-in_err-name-clause-cause c =
    let p = err_from_is_err_and c.from_residual.result c.from_residual.ensures.1 in
    rw (p.1, p.2) (cause-of _ c.in_err-name.field-0.0 _ (remove-own (kept c.args.self.now) c.args.at.now c.args.who.now c.args.now) c.in_err-name.ensures)

pub take_out-requires : goal.take_out-requires
take_out-requires c = remove-fits true (kept c.args.self.now) c.args.at.now c.args.who.now c.args.now _ c.requires.who c.args.self.now.fits c.in_ok-name.ensures
