use Rattle.std.proofs.Common.{◌≡◌}
use Rattle.fo_mind.specs.MindParts.{parts}
use Rattle.fo_mind.specs.Parts.{count_of}
use Rattle.fo_turning.specs.Freed.{Loosens, pins_below}
use Rattle.fo_turning.proofs.pins.unpin_all.Given as goal

abbrev pub invariant-loop : goal.invariant-loop
invariant-loop g l = record {
  loosens : Loosens (parts l.fn.cache.mind (g.D.Disk.state l.fn.cache.main).holds (g.D.Disk.faults l.fn.cache.main)) (parts l.cache.mind (g.D.Disk.state l.cache.main).holds (g.D.Disk.faults l.cache.main));
  device : l.cache.main ≡ l.fn.cache.main;
}

abbrev pub decreases-loop : goal.decreases-loop
decreases-loop g l = pins_below (count_of l.cache.mind.labels) l.cache.mind.buffers
