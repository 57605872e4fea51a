use Rattle.std.proofs.Common.{◌^◌, true}
use Rattle.std.proofs.lemmas.Result.{err_from_is_err_and}
use Rattle.fo_world.proofs.Fits.{change-fits}
use Rattle.fo_plain.specs.Kept.{kept}
use Rattle.fo_plain.proofs.Causes.{change-own, cause-of}
use Rattle.fo_plain.proofs.plain.PlainFilesFileOps.change.Goals as goal

pub returns-in_err-may_change-clause-cause : goal.returns-in_err-may_change-clause-cause
returns-in_err-may_change-clause-cause c =
    let p = err_from_is_err_and c.from_residual.result c.from_residual.ensures.1 in
    rw (p.1, p.2) (cause-of _ c.in_err-may_change.field-0.0 _ (change-own (2 ^ 40) (kept c.args.self.now) c.args.at.now c.args.what.now c.args.who.now c.args.now) c.in_err-may_change.ensures.answer)

pub put_fields-requires-clause-fits : goal.put_fields-requires-clause-fits
put_fields-requires-clause-fits c =
    change-fits true (2 ^ 40) (kept c.args.self.now) c.args.at.now c.args.what.now c.args.who.now c.args.now _ c.requires.change.name c.requires.change.gid c.requires.who c.args.self.now.fits (rw c.in-Some.is at c.in_ok-may_change.ensures.answer)
