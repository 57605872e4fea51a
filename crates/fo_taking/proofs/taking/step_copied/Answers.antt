use Rattle.std.proofs.Common.{inl, refl}
use Rattle.fo_takeout.specs.declared.pair.Change.TheVariants.{Copied}
use Rattle.fo_taking.proofs.Stepping.{lacks_step}
use Rattle.fo_taking.proofs.taking.step_copied.Goals as goal

pub returns-in-None : goal.returns-in-None
returns-in-None c = lacks_step c.args.walk.now c.args.walk.now c.args.pair.now Copied refl c.requires.first c.requires.change (inl c.in-None.ensures)
