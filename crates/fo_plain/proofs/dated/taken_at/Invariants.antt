use Rattle.std.proofs.Common.{◌≡◌, drop}
use Rattle.fo_world.specs.Dated.{taken_at}
use Rattle.fo_plain.proofs.dated.taken_at.Given as goal

abbrev pub invariant-loop-taken : goal.invariant-loop-taken
invariant-loop-taken l = taken_at l.epoch (drop l.taken-index l.all) ≡ taken_at l.epoch l.all
