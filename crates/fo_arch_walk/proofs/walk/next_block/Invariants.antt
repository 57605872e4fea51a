use Rattle.fo_ports.specs.State.{Looks}
use Rattle.fo_arch_walk.specs.Spots.{IsOpen}
use Rattle.fo_arch_walk.proofs.walk.next_block.Given as goal

abbrev pub invariant-loop-next : goal.invariant-loop-next
invariant-loop-next g l = record {
  here : IsOpen l.done (g.B.Blocks.state l.on) l.root l.spot;
  before : IsOpen l.done (g.B.Blocks.state l.on) l.root l.above;
  looks : Looks (g.B.Blocks.state l.initial.on) (g.B.Blocks.state l.on);
  keeps : g.B.Blocks.keeps l.initial.on l.on;
}

abbrev pub decreases-loop-next : goal.decreases-loop-next
decreases-loop-next g l = l.spot.rank
