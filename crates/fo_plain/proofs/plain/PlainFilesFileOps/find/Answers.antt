use Rattle.std.proofs.Common.{true}
use Rattle.fo_world.proofs.Fits.{find-fits}
use Rattle.fo_plain.specs.Kept.{kept}
use Rattle.fo_plain.proofs.Causes.{find-own, told-cause}
use Rattle.fo_plain.proofs.Within.{told-fits}
use Rattle.fo_plain.proofs.plain.PlainFilesFileOps.find.Goals as goal

pub returns-clause-fits : goal.returns-clause-fits
returns-clause-fits c = told-fits _ _ (kept c.args.self.now) _ (λ i w' is. find-fits true (kept c.args.self.now) c.args.at.now c.args.name.now i w' c.args.self.now.fits is) c.look_for.ensures

pub returns-clause-cause : goal.returns-clause-cause
returns-clause-cause c = told-cause _ (kept c.args.self.now) _ 0 (find-own (kept c.args.self.now) c.args.at.now c.args.name.now) c.look_for.ensures
