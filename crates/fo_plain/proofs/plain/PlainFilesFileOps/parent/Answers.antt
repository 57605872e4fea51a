use Rattle.std.proofs.Common.{true}
use Rattle.fo_world.proofs.Fits.{parent-fits}
use Rattle.fo_plain.specs.Kept.{kept}
use Rattle.fo_plain.proofs.Causes.{parent-own, told-cause}
use Rattle.fo_plain.proofs.Within.{told-fits}
use Rattle.fo_plain.proofs.plain.PlainFilesFileOps.parent.Goals as goal

pub returns-clause-fits : goal.returns-clause-fits
returns-clause-fits c = told-fits _ _ (kept c.args.self.now) _ (λ i w' is. parent-fits true (kept c.args.self.now) c.args.at.now i w' c.args.self.now.fits is) c.look_up.ensures

pub returns-clause-cause : goal.returns-clause-cause
returns-clause-cause c = told-cause _ (kept c.args.self.now) _ 0 (parent-own (kept c.args.self.now) c.args.at.now) c.look_up.ensures
