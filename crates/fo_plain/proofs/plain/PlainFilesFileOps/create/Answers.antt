use Rattle.std.proofs.Common.{true}
use Rattle.std.proofs.lemmas.Result.{err_from_is_err_and}
use Rattle.fo_world.proofs.Fits.{create-fits}
use Rattle.fo_plain.specs.Kept.{kept}
use Rattle.fo_plain.proofs.Causes.{create-own, answer-cause, cause-of}
use Rattle.fo_plain.proofs.plain.PlainFilesFileOps.create.Goals as goal

pub returns-in_err-may_create-clause-cause : goal.returns-in_err-may_create-clause-cause
returns-in_err-may_create-clause-cause c =
    let p = err_from_is_err_and c.from_residual.result c.from_residual.ensures.1 in
    rw (p.1, p.2) (cause-of _ c.in_err-may_create.field-0.0 _ (create-own (kept c.args.self.now) c.args.at.now c.as_slice.result.now c.args.mode c.args.who.now c.args.uid.now c.args.gid.now c.args.now) c.in_err-may_create.ensures.answer)

pub make-requires-clause-fits : goal.make-requires-clause-fits
make-requires-clause-fits c =
    (create-fits true (kept c.args.self.now) c.args.at.now c.args.name.now c.args.mode c.args.who.now c.args.uid.now c.args.gid.now c.args.now _ _ c.requires.name c.requires.who c.requires.uid c.requires.gid c.args.self.now.fits (rw c.as_slice.ensures at c.in_ok-may_create.ensures.answer)).world
