use Rattle.std.proofs.Common.{◌≡◌, drop, None}
use Rattle.std.specs.Option.{option_copied}
use Rattle.fo_world.specs.Step.{least_from}
use Rattle.fo_plain.proofs.dated.least_above.Given as goal

abbrev pub invariant-loop-entry : goal.invariant-loop-entry
invariant-loop-entry l = least_from (option_copied l.after) (option_copied l.best) (drop l.entry-index l.entries) ≡ least_from (option_copied l.after) None l.entries
