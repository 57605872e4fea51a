use Rattle.std.proofs.Common.{[], ap}
use Rattle.fo_cache.specs.of_mind.MindParts.{parts}
use Rattle.fo_settling.proofs.Clearing.{clearings_none, clearings_one}
use Rattle.fo_settling.proofs.Costing.{touches_due, touches_none}
use Rattle.fo_settling.proofs.rounds.clear_next.Goals as goal

pub returns-in_default-clause-clears : goal.returns-in_default-clause-clears
returns-in_default-clause-clears g c = let old = c.args.cache.now in clearings_none (parts old.mind (g.D.Disk.state old.main).holds (g.D.Disk.faults old.main))

pub returns-clause-clears : goal.returns-clause-clears
returns-clause-clears g c =
    let old = c.args.cache.now in
    let new = c.clear_due.new.self in
    let h = (g.D.Disk.state old.main).holds in
    let f = g.D.Disk.faults old.main in
    let same = c.clear_due.ensures.device in
    clearings_one c.in-Some.at c.in-Some.i (parts old.mind [] 0) (parts new.mind [] 0) h (g.D.Disk.state new.main).holds f (g.D.Disk.faults new.main) (ap (λ m. (g.D.Disk.state m).holds) same) (ap (λ m. g.D.Disk.faults m) same) old.mind.rests (c.clear_due.ensures.cleared h f) c.in-Some.ensures.0

pub returns-in_default-clause-touches : goal.returns-in_default-clause-touches
returns-in_default-clause-touches g c = touches_none (parts c.args.cache.now.mind [] 0)

pub returns-in_default-clause-none : goal.returns-in_default-clause-none
returns-in_default-clause-none g c = λ _. c.in_default.ensures

pub returns-clause-touches : goal.returns-clause-touches
returns-clause-touches g c = touches_due c.in-Some.at c.in-Some.i (parts c.args.cache.now.mind [] 0) (parts c.clear_due.new.self.mind [] 0) (c.clear_due.ensures.cleared [] 0) c.in-Some.ensures.1
