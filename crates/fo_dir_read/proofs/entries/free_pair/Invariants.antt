use Rattle.std.proofs.Common.{◌≡◌, ◌+◌, ◌*◌, ◌≤◌}
use Rattle.fo_ports.specs.State.{Looks}
use Rattle.fo_ports.specs.Sources.{SameLeaves, depth_for}
use Rattle.fo_dir_read.specs.Pairs.{AreTaken}
use Rattle.fo_dir_read.proofs.entries.free_pair.Given as goal

abbrev pub invariant-loop-i : goal.invariant-loop-i
invariant-loop-i g l =
    let a = g.B.Blocks.state l.initial.on in
    let b = g.B.Blocks.state l.on in
    g.S.Bytes.is_over l.entries l.on
    × ((g.S.Bytes.form l.entries ≡ g.S.Bytes.form l.initial.entries) × (g.S.Bytes.size l.entries ≡ g.S.Bytes.size l.initial.entries) × SameLeaves a.tells (g.S.Bytes.leaves l.initial.entries l.initial.on) (g.S.Bytes.leaves l.entries l.on))
    × Looks a b
    × g.B.Blocks.keeps l.initial.on l.on
    × (a.pins_left ≤ b.pins_left + l.i * (depth_for (g.S.Bytes.size l.initial.entries) + 1))
    × (a.tells → AreTaken b (g.S.Bytes.leaves l.entries l.on) (102 * l.i))
