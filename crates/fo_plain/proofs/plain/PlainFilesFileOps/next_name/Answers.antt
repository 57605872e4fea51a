use Rattle.std.proofs.Common.{true}
use Rattle.std.specs.Option.{option_copied}
use Rattle.fo_world.proofs.Fits.{next_name-fits}
use Rattle.fo_plain.specs.Kept.{kept}
use Rattle.fo_plain.proofs.Causes.{next_name-own, told-cause}
use Rattle.fo_plain.proofs.Within.{told-fits}
use Rattle.fo_plain.proofs.plain.PlainFilesFileOps.next_name.Goals as goal

pub returns-clause-fits : goal.returns-clause-fits
returns-clause-fits c = told-fits _ _ (kept c.args.self.now) _ (λ i w' is. next_name-fits true (kept c.args.self.now) c.args.at.now (option_copied c.args.after) i w' c.args.self.now.fits is) c.look_above.ensures

pub returns-clause-cause : goal.returns-clause-cause
returns-clause-cause c = told-cause _ (kept c.args.self.now) _ 0 (next_name-own (kept c.args.self.now) c.args.at.now (option_copied c.args.after)) c.look_above.ensures
