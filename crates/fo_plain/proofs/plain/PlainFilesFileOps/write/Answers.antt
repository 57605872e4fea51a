use Rattle.std.proofs.Common.{◌^◌, true}
use Rattle.fo_world.specs.Step.{after_write}
use Rattle.std.proofs.lemmas.Result.{err_from_is_err_and}
use Rattle.fo_world.proofs.Fits.{write-fits}
use Rattle.fo_plain.specs.Kept.{kept}
use Rattle.fo_plain.proofs.Causes.{write-own, cause-of}
use Rattle.fo_plain.proofs.plain.PlainFilesFileOps.write.Goals as goal

pub returns-in_err-may_write-clause-cause : goal.returns-in_err-may_write-clause-cause
returns-in_err-may_write-clause-cause c =
    let p = err_from_is_err_and c.from_residual.result c.from_residual.ensures.1 in
    rw (p.1, p.2) (cause-of _ c.in_err-may_write.field-0.0 _ (write-own (2 ^ 40) (kept c.args.self.now) c.args.at.now c.args.offset c.args.bytes.now c.args.who.now c.args.now) c.in_err-may_write.ensures.answer)

pub put_bytes-requires-clause-fits : goal.put_bytes-requires-clause-fits
put_bytes-requires-clause-fits c =
    write-fits true (2 ^ 40) (kept c.args.self.now) c.args.at.now c.args.offset c.args.bytes.now c.args.who.now c.args.now _ c.requires.who c.args.self.now.fits (rw c.if-branch.true at c.in_ok-may_write.ensures.answer)
