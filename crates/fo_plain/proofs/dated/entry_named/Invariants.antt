use Rattle.std.proofs.Common.{◌≡◌, drop}
use Rattle.fo_world.specs.Step.{entry_named}
use Rattle.fo_plain.proofs.dated.entry_named.Given as goal

abbrev pub invariant-loop-entry : goal.invariant-loop-entry
invariant-loop-entry l = entry_named l.name (drop l.entry-index l.entries) ≡ entry_named l.name l.entries
