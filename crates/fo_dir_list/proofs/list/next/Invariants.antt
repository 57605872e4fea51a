use Rattle.std.proofs.Common.{◌≡◌, ◌+◌, ◌*◌, ◌≤◌, IfSome}
use Rattle.fo_image.specs.Record.{RecordHolds}
use Rattle.fo_ports.specs.State.{Looks}
use Rattle.fo_ports.specs.Sources.{SameLeaves, depth_for}
use Rattle.fo_dir_list.specs.Next.{IsLater, NextBelow}
use Rattle.fo_dir_list.proofs.list.next.Given as goal

abbrev pub invariant-loop-i : goal.invariant-loop-i
invariant-loop-i g l =
    let a = g.B.Blocks.state l.initial.on in
    let b = g.B.Blocks.state l.on in
    g.S.Bytes.is_over l.records l.on
    × ((g.S.Bytes.form l.records ≡ g.S.Bytes.form l.initial.records) × (g.S.Bytes.size l.records ≡ g.S.Bytes.size l.initial.records) × SameLeaves a.tells (g.S.Bytes.leaves l.initial.records l.initial.on) (g.S.Bytes.leaves l.records l.on))
    × Looks a b
    × g.B.Blocks.keeps l.initial.on l.on
    × (a.pins_left ≤ b.pins_left + l.i * (depth_for (g.S.Bytes.size l.initial.records) + 1))
    × (a.tells → NextBelow b.now (g.S.Bytes.leaves l.records l.on) l.after l.i l.best)
    × IfSome l.best RecordHolds
    × IsLater l.after l.best
