use Rattle.std.proofs.Common.{◌≤◌, length}
use Rattle.fo_ports.specs.State.{Looks}
use Rattle.fo_arch_walk.specs.Siblings.{WasGot, Batching}
use Rattle.fo_arch_walk.proofs.siblings.add_siblings.Given as goal

abbrev pub invariant-loop-i : goal.invariant-loop-i
invariant-loop-i g l = record {
  got : WasGot l.done (g.B.Blocks.state l.on) l.root l.above l.block;
  batching : Batching l.done (g.B.Blocks.state l.on) l.root l.pieces.items;
  low : length l.fn.pieces.items ≤ length l.pieces.items;
  few : length l.pieces.items ≤ l.n;
  looks : Looks (g.B.Blocks.state l.fn.on) (g.B.Blocks.state l.on);
  keeps : g.B.Blocks.keeps l.fn.on l.on;
}
