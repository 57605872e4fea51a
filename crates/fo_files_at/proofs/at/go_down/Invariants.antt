use Rattle.std.proofs.Common.{take}
use Rattle.fo_ports.specs.State.{Looks}
use Rattle.fo_files_at.specs.Way.{IsWay}
use Rattle.fo_files_at.proofs.at.go_down.Given as goal

abbrev pub invariant-loop-i : goal.invariant-loop-i
invariant-loop-i g l =
    IsWay (g.B.Blocks.state l.on) l.root (take l.i l.trail) l.way
    × Looks (g.B.Blocks.state l.initial.on) (g.B.Blocks.state l.on)
    × g.B.Blocks.keeps l.initial.on l.on
