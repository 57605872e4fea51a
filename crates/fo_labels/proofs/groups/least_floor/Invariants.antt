use Rattle.std.proofs.Common.{take}
use Rattle.fo_labels.specs.Groups.{IsFloorOf}
use Rattle.fo_labels.proofs.groups.least_floor.Given as goal

abbrev pub invariant-loop-label : goal.invariant-loop-label
invariant-loop-label l = IsFloorOf (take l.label-index l.labels) l.least
