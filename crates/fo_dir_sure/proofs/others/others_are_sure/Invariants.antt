use Rattle.std.proofs.Common.{◌≡◌, ◌+◌, ◌*◌, ◌≤◌}
use Rattle.fo_ports.specs.State.{Looks}
use Rattle.fo_ports.specs.Sources.{SameLeaves, depth_for}
use Rattle.fo_dir_sure.specs.Sure.{AreSureBut}
use Rattle.fo_dir_sure.proofs.others.others_are_sure.Given as goal

abbrev pub invariant-loop-i : goal.invariant-loop-i
invariant-loop-i g l =
    let a = g.B.Blocks.state l.initial.on in
    let b = g.B.Blocks.state l.on in
    g.S.Bytes.is_over l.source l.on
    × ((g.S.Bytes.form l.source ≡ g.S.Bytes.form l.initial.source) × (g.S.Bytes.size l.source ≡ g.S.Bytes.size l.initial.source) × SameLeaves a.tells (g.S.Bytes.leaves l.initial.source l.initial.on) (g.S.Bytes.leaves l.source l.on))
    × Looks a b
    × g.B.Blocks.keeps l.initial.on l.on
    × (a.pins_left ≤ b.pins_left + l.i * depth_for (g.S.Bytes.size l.initial.source))
    × (a.tells → AreSureBut b (g.S.Bytes.leaves l.source l.on) l.i l.but)
