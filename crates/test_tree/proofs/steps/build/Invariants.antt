use Rattle.std.proofs.Common.{◌-◌, ◌*◌, ◌≤◌, length}
use Rattle.test_tree.specs.Rig.{Rig}
use Rattle.test_tree.specs.Linked.{Apart}
use Rattle.test_tree.proofs.steps.build.Given as goal

abbrev pub invariant-loop-step : goal.invariant-loop-step
invariant-loop-step g l = record {
  rig : Rig (g.B.Blocks.state l.on) l.ways;
  apart : Apart (g.B.Blocks.state l.on) l.ways;
  spare : 15 * (length l.steps - l.step-index) ≤ (g.B.Blocks.state l.on).spare;
}
