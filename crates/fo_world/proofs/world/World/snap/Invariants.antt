use Rattle.std.proofs.Common.{◌≡◌, drop}
use Rattle.fo_world.specs.Step.{snap_at}
use Rattle.fo_world.proofs.world.World.snap.Given as goal

abbrev pub invariant-loop-snap : goal.invariant-loop-snap
invariant-loop-snap l = snap_at l.epoch (drop l.snap-index l.snap-items) ≡ snap_at l.epoch l.self.snaps
