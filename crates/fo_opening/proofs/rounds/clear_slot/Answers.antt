use Rattle.std.proofs.Common.{[], ap}
use Rattle.fo_mind.specs.MindParts.{parts}
use Rattle.fo_reserving.proofs.of_settling.Clearing.{clearings_one}
use Rattle.fo_opening.proofs.Stepping.{ending_cleared}
use Rattle.fo_opening.proofs.rounds.clear_slot.Goals as goal

pub returns-clause-clears : goal.returns-clause-clears
returns-clause-clears g c =
    let old = c.args.cache.now in
    let new = c.clear_due.new.self in
    let h = (g.D.Disk.state old.main).holds in
    let f = g.D.Disk.faults old.main in
    let same = c.clear_due.ensures.device in
    clearings_one c.args.at c.args.i (parts old.mind [] 0) (parts new.mind [] 0) h (g.D.Disk.state new.main).holds f (g.D.Disk.faults new.main) (ap (λ m. (g.D.Disk.state m).holds) same) (ap (λ m. g.D.Disk.faults m) same) old.mind.rests (c.clear_due.ensures.cleared h f) c.requires.due

pub returns-clause-ending : goal.returns-clause-ending
returns-clause-ending g c =
    let old = c.args.cache.now in
    let new = c.clear_due.new.self in
    let e = c.clear_due.ensures in
    ending_cleared c.args.at c.args.i (g.D.Disk.state old.main) (g.D.Disk.state new.main) (g.D.Disk.faults old.main) (g.D.Disk.faults new.main) (parts old.mind [] 0) (parts new.mind [] 0) c.requires.waits (ap g.D.Disk.state e.device) e.eases old.mind.holding old.mind.standing (c.clear_due.ensures.cleared [] 0)
