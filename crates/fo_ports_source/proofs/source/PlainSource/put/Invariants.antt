use Rattle.std.proofs.Common.{◌≡◌, ◌-◌, ◌≤◌, length, take}
use Rattle.fo_ports_source.specs.Source.{leaf_of, byte_of, Over, Puts, Spent}
use Rattle.fo_ports_source.specs.Steps.{Grew, DirtiesFor}
use Rattle.fo_ports_source.proofs.source.PlainSource.put.Given as goal

abbrev pub invariant-loop-done : goal.invariant-loop-done
invariant-loop-done g l = record {
  within : l.done ≤ length l.piece;
  over : Over (g.B.Blocks.state l.on) l.self.kind l.self.tag l.self.rank l.self.size l.self.leaves.items;
  same : (l.self.kind ≡ l.initial.self.kind) × (l.self.tag ≡ l.initial.self.tag) × (l.self.rank ≡ l.initial.self.rank) × (l.self.size ≡ l.initial.self.size);
  puts : (g.B.Blocks.state l.initial.on).tells → Puts (byte_of (leaf_of l.initial.self.leaves.items) (g.B.Blocks.state l.initial.on).now) (byte_of (leaf_of l.self.leaves.items) (g.B.Blocks.state l.on).now) l.offset (take l.done l.piece);
  grew : Grew l.initial.self.kind l.initial.self.tag l.initial.self.size l.initial.self.leaves.items l.self.leaves.items (g.B.Blocks.state l.initial.on) (g.B.Blocks.state l.on);
  keeps : g.B.Blocks.keeps l.initial.on l.on;
  dirties : DirtiesFor (length l.piece) l.offset l.done (g.B.Blocks.state l.initial.on) (g.B.Blocks.state l.on);
  spent : Spent (length l.piece) l.offset l.done (g.B.Blocks.state l.initial.on).spare (g.B.Blocks.state l.on).spare;
}

abbrev pub decreases-loop-done : goal.decreases-loop-done
decreases-loop-done g l = length l.initial.piece - l.done
