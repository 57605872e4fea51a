use Rattle.std.proofs.Common.{◌-◌, ◌*◌}
use Rattle.fo_labels.specs.Spelled.{StartsLabels}
use Rattle.fo_labels.proofs.labels.Labels.spell.Given as goal

abbrev pub invariant-loop-place : goal.invariant-loop-place
invariant-loop-place l = StartsLabels l.self (585 * (l.at - 2)) l.place l.into
