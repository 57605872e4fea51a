use Rattle.std.proofs.Common.{◌-◌, ◌≤◌}
use Rattle.fo_tree_read.specs.of_ports.State.{Looks}
use Rattle.fo_tree_read.specs.Reading.{most, HasPassed}
use Rattle.fo_tree_look.specs.Source.{Extends, WaysReady}
use Rattle.fo_tree_look.proofs.pins.prepare_ways.Given as goal

abbrev pub invariant-loop-done : goal.invariant-loop-done
invariant-loop-done g l = record {
  within : l.done ≤ l.len;
  looks : Looks (g.B.Blocks.state l.initial.on) (g.B.Blocks.state l.on);
  keeps : g.B.Blocks.keeps l.initial.on l.on;
  more : Extends (g.B.Blocks.state l.on) l.initial.kept.items l.kept.items;
  ready : most l.tree.depth l.len ≤ (g.B.Blocks.state l.initial.on).pins_left → WaysReady (g.B.Blocks.state l.on) l.tree l.kept.items l.offset l.done;
  been : HasPassed (g.B.Blocks.state l.on) l.tree (g.B.Blocks.state l.initial.on).pins_left l.offset l.done;
}

abbrev pub decreases-loop-done : goal.decreases-loop-done
decreases-loop-done g l = l.len - l.done
