use Rattle.std.proofs.Common.{◌≡◌, drop}
use Rattle.fo_world.specs.Dated.{has_twin}
use Rattle.fo_plain.proofs.dated.has_twin.Given as goal

abbrev pub invariant-loop-other : goal.invariant-loop-other
invariant-loop-other l = has_twin (drop l.other-index l.all) l.taken ≡ has_twin l.all l.taken
