use Rattle.std.proofs.Common.{◌≡◌, ◌+◌, ◌≤◌, ◌<◌, ℕ, Some}
use Rattle.fo_ports.specs.State.{Looks}
use Rattle.fo_ports_source.specs.Source.{leaf_of, IsHeld}
use Rattle.fo_ports_source.proofs.source.PlainSource.pin_all.Given as goal

abbrev pub invariant-loop-i : goal.invariant-loop-i
invariant-loop-i g l = record {
  looks : Looks (g.B.Blocks.state l.initial.on) (g.B.Blocks.state l.on);
  keeps : g.B.Blocks.keeps l.initial.on l.on;
  held : l.last ≤ (g.B.Blocks.state l.initial.on).pins_left + l.first → (i at : ℕ) → l.first ≤ i → i < l.i → leaf_of l.self.leaves.items i ≡ Some at → IsHeld (g.B.Blocks.state l.on) l.self.kind l.self.tag at;
  pins : (g.B.Blocks.state l.initial.on).pins_left + l.first ≤ (g.B.Blocks.state l.on).pins_left + l.i;
}
