use Rattle.std.proofs.Common.{◌≡◌, ◌⊎◌, ℕ, [], false, vec_len}
use Rattle.fo_mind.specs.MindParts.{parts}
use Rattle.fo_mind.specs.Turning.{may_release}
use Rattle.fo_cache.specs.Easing.{Eases}
use Rattle.fo_turning.specs.Flushes.{IsMarked, LetsGo}
use Rattle.fo_turning.proofs.release.release_written.Given as goal

abbrev pub invariant-loop-mark : goal.invariant-loop-mark
invariant-loop-mark g l = record {
  lets : LetsGo (IsMarked l.fn.marks.items) (g.D.Disk.state l.fn.cache.main).holds (parts l.fn.cache.mind [] 0) (parts l.cache.mind [] 0);
  gone : (b : ℕ) → IsMarked l.fn.marks.items b → IsMarked l.left.items b ⊎ (may_release (parts l.cache.mind [] 0) b ≡ false);
  within : (b : ℕ) → IsMarked l.left.items b → IsMarked l.fn.marks.items b;
  eases : Eases (parts l.fn.cache.mind (g.D.Disk.state l.fn.cache.main).holds (g.D.Disk.faults l.fn.cache.main)) (parts l.cache.mind (g.D.Disk.state l.cache.main).holds (g.D.Disk.faults l.cache.main));
  device : l.cache.main ≡ l.fn.cache.main;
}

abbrev pub decreases-loop-mark : goal.decreases-loop-mark
decreases-loop-mark g l = vec_len l.left
