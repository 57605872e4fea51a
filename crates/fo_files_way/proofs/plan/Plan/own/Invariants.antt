use Rattle.std.proofs.Common.{length}
use Rattle.fo_files_way.proofs.Going.{Going}
use Rattle.fo_files_way.proofs.plan.Plan.own.Given as goal

abbrev pub invariant-loop-level : goal.invariant-loop-level
invariant-loop-level g l =
    Going (g.B.Blocks.state l.initial.on) (g.B.Blocks.state l.on) l.k l.fn.self.levels.items l.levels.items l.fn.self.at.items l.at.items l.fn.self.tags.items
    × g.B.Blocks.keeps l.initial.on l.on

abbrev pub decreases-loop-level : goal.decreases-loop-level
decreases-loop-level g l = length l.levels.items
