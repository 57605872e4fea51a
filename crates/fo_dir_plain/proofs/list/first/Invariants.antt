use Rattle.std.proofs.Common.{◌≡◌, drop, find}
use Rattle.fo_meta.specs.Leaf.{is_named}
use Rattle.fo_dir_plain.proofs.list.first.Given as goal

abbrev pub invariant-loop-named : goal.invariant-loop-named
invariant-loop-named l = find (is_named l.name) (drop l.named-index l.records) ≡ find (is_named l.name) l.records
