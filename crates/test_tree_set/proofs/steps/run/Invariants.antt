use Rattle.std.proofs.Common.{◌-◌, ◌*◌, ◌≤◌, length}
use Rattle.fo_files_dir.specs.Dir.{IsFileAt}
use Rattle.test_tree_set.proofs.steps.run.Given as goal

abbrev pub invariant-loop-step : goal.invariant-loop-step
invariant-loop-step g l = record {
  file : IsFileAt (g.B.Blocks.state l.on) l.file;
  spare : 19 * (length l.steps - l.step-index) ≤ (g.B.Blocks.state l.on).spare;
  room : 3273 * (length l.steps - l.step-index) ≤ (g.B.Blocks.state l.on).room;
  pins : 30 * (length l.steps - l.step-index) ≤ (g.B.Blocks.state l.on).pins_left;
}
