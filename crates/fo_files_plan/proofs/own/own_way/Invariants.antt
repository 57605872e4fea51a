use Rattle.std.proofs.Common.{length}
use Rattle.fo_files_way.specs.Plan.{AreBlocks}
use Rattle.fo_files_way.proofs.Going.{Going}
use Rattle.fo_files_plan.proofs.own.own_way.Given as goal
use Rattle.fo_files_plan.proofs.Counting.{Counted}

abbrev pub invariant-loop-level : goal.invariant-loop-level
invariant-loop-level g l =
    Going (g.B.Blocks.state l.initial.on) (g.B.Blocks.state l.on) l.k l.fn.plan.levels.items l.levels.items l.fn.plan.at.items l.at.items l.fn.plan.tags.items
    × AreBlocks (g.B.Blocks.state l.on) l.at.items
    × g.B.Blocks.keeps l.initial.on l.on
    × Counted l.fn.plan.levels.items l.levels.items l.k l.at.items (g.B.Blocks.state l.initial.on) (g.B.Blocks.state l.on)

abbrev pub decreases-loop-level : goal.decreases-loop-level
decreases-loop-level g l = length l.levels.items
