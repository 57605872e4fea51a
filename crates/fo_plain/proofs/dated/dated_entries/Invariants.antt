use Rattle.std.proofs.Common.{◌≡◌, ◌++◌, drop}
use Rattle.fo_world.specs.Step.{dated_entries}
use Rattle.fo_plain.proofs.dated.dated_entries.Given as goal

abbrev pub invariant-loop-taken : goal.invariant-loop-taken
invariant-loop-taken l = l.entries.items ++ dated_entries l.archive l.year l.monthday l.all (drop l.taken-index l.all) ≡ dated_entries l.archive l.year l.monthday l.all l.all
