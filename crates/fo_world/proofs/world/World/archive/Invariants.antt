use Rattle.std.proofs.Common.{◌≡◌, drop}
use Rattle.fo_world.specs.Step.{archive_at}
use Rattle.fo_world.proofs.world.World.archive.Given as goal

abbrev pub invariant-loop-archive : goal.invariant-loop-archive
invariant-loop-archive l = archive_at l.epoch (drop l.archive-index l.archive-items) ≡ archive_at l.epoch l.self.archives
