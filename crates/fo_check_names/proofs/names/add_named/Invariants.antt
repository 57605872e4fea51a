use Rattle.std.proofs.Common.{◌≡◌, ◌++◌, map}
use Rattle.fo_check_names.specs.Names.{named_in}
use Rattle.fo_check_names.proofs.names.add_named.Given as goal

abbrev pub invariant-loop-record : goal.invariant-loop-record
invariant-loop-record l = l.named.items ++ map (named_in l.leaf) l.record-iterator.rest.items ≡ l.fn.named.items ++ map (named_in l.leaf) l.fn.records.items
