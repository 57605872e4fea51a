use Rattle.std.proofs.Common.{◌≡◌, ◌++◌, drop, map}
use Rattle.fo_world.specs.Dated.{taken_snap}
use Rattle.fo_plain.proofs.taken.taken_snaps.Given as goal

abbrev pub invariant-loop-snap : goal.invariant-loop-snap
invariant-loop-snap l = l.all.items ++ map taken_snap (drop l.snap-index l.snaps) ≡ map taken_snap l.snaps
