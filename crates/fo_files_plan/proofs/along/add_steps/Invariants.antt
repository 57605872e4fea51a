use Rattle.std.proofs.Common.{◌+◌, ◌*◌, ◌≤◌, take, drop}
use Rattle.fo_ports.specs.State.{Looks}
use Rattle.fo_files_way.specs.of_files_at.Way.{first_of}
use Rattle.fo_files_plan.specs.Along.{IsAlong}
use Rattle.fo_files_plan.proofs.along.add_steps.Given as goal

abbrev pub invariant-loop-k : goal.invariant-loop-k
invariant-loop-k g l =
    IsAlong (g.B.Blocks.state l.on) (take l.k l.way.steps.items) (first_of (drop l.k l.way.steps.items) l.way.file) l.plan
    × ((g.B.Blocks.state l.initial.on).pins_left ≤ (g.B.Blocks.state l.on).pins_left + 20 * l.k)
    × Looks (g.B.Blocks.state l.initial.on) (g.B.Blocks.state l.on)
    × g.B.Blocks.keeps l.initial.on l.on
