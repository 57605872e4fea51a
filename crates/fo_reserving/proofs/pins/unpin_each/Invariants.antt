use Rattle.std.proofs.Common.{◌≡◌, ℕ, []}
use Rattle.fo_closing.specs.of_mind.MindParts.{parts}
use Rattle.fo_closing.specs.of_mind.Parts.{IsPinned, count_of}
use Rattle.fo_reserving.specs.Steps.{IsKept, Lets, pins_below}
use Rattle.fo_reserving.proofs.pins.unpin_each.Given as goal

abbrev pub invariant-loop : goal.invariant-loop
invariant-loop g l = record {
  lets : Lets (parts l.fn.cache.mind [] 0) (parts l.cache.mind [] 0);
  kept : (b : ℕ) → IsPinned l.fn.cache.mind.buffers b → IsKept (parts l.cache.mind [] 0) b;
  device : l.cache.main ≡ l.fn.cache.main;
}

abbrev pub decreases-loop : goal.decreases-loop
decreases-loop g l = pins_below l.cache.mind.buffers (count_of l.cache.mind.labels)
