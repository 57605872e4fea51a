use Rattle.std.proofs.Common.{[]}
use Rattle.fo_mind.specs.MindParts.{parts}
use Rattle.fo_reserving.proofs.of_settling.Clearing.{clearings_none}
use Rattle.fo_opening.proofs.Stepping.{ending_none}
use Rattle.fo_opening.proofs.rounds.clear_next.Goals as goal

pub returns-in_default-clause-clears : goal.returns-in_default-clause-clears
returns-in_default-clause-clears g c = let old = c.args.cache.now in clearings_none (parts old.mind (g.D.Disk.state old.main).holds (g.D.Disk.faults old.main))

pub returns-in_default-clause-ending : goal.returns-in_default-clause-ending
returns-in_default-clause-ending g c = let old = c.args.cache.now in ending_none (g.D.Disk.state old.main) (g.D.Disk.faults old.main) (parts old.mind [] 0)

pub returns-clause-clears : goal.returns-clause-clears
returns-clause-clears g c = c.clear_slot.ensures.clears
