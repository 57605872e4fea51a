use Rattle.std.proofs.Common.{◌≢◌, ◌<◌, ℕ}
use Rattle.fo_image.specs.declared.types.Score.{Score}
use Rattle.fo_image.specs.declared.types.Pointer.TheVariants.{Score as Held}
use Rattle.fo_crash.specs.Images.{target}
use Rattle.test_names.proofs.root.has_no_score.Given as goal

abbrev pub invariant-loop-i : goal.invariant-loop-i
invariant-loop-i g l = (j : ℕ) (score : Score) → j < l.i → target (((g.B.Blocks.state l.on).now l.at).slot j) ≢ Held score
