use Rattle.std.proofs.Common.{◌≡◌, length}
use Rattle.fo_rules.proofs.Fronts.{Read}
use Rattle.fo_rules.proofs.leaf.read_records.Given as goal

abbrev pub invariant-records : goal.invariant-records
invariant-records l = record { read : Read l.bytes l.records.items l.rest; count_is : length l.records.items ≡ l.counter }
