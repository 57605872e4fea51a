use Rattle.std.proofs.Common.{◌≡◌, ◌≤◌, ◌<◌, ℕ, [], false}
use Rattle.fo_closing.specs.of_mind.MindParts.{parts}
use Rattle.fo_closing.specs.of_mind.Turning.{may_release}
use Rattle.fo_reserving.specs.Steps.{Lets}
use Rattle.fo_reserving.proofs.pins.release_each.Given as goal

abbrev pub invariant-loop-at : goal.invariant-loop-at
invariant-loop-at g l = record {
  lets : Lets (parts l.fn.cache.mind [] 0) (parts l.cache.mind [] 0);
  none : (b : ℕ) → l.fn.cache.mind.first ≤ b → b < l.at → may_release (parts l.cache.mind [] 0) b ≡ false;
  device : l.cache.main ≡ l.fn.cache.main;
}
