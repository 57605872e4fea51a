use Rattle.std.proofs.Common.{◌≡◌, drop}
use Rattle.std.specs.List.{list_any}
use Rattle.fo_world.specs.Dated.{is_below}
use Rattle.fo_plain.proofs.dated.is_dated.Given as goal

abbrev pub invariant-loop-taken : goal.invariant-loop-taken
invariant-loop-taken l = list_any (is_below l.year l.monthday) (drop l.taken-index l.all) ≡ list_any (is_below l.year l.monthday) l.all
