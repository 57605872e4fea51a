use Rattle.std.proofs.Common.{◌≡◌, ◌++◌, drop, map}
use Rattle.fo_world.specs.Dated.{taken_archive}
use Rattle.fo_plain.proofs.taken.taken_archives.Given as goal

abbrev pub invariant-loop-archive : goal.invariant-loop-archive
invariant-loop-archive l = l.all.items ++ map taken_archive (drop l.archive-index l.archives) ≡ map taken_archive l.archives
