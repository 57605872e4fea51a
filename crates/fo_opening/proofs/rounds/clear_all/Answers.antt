use Rattle.std.proofs.Common.{[], ◌∙◌, arith, refl, rules}
use Rattle.fo_mind.specs.MindParts.{parts}
use Rattle.fo_reserving.proofs.of_settling.Clearing.{clearings_none, clearings_on}
use Rattle.fo_opening.proofs.Stepping.{ending_none, ending_on}
use Rattle.fo_opening.proofs.rounds.clear_all.Goals as goal

pub loop-init : goal.loop-init
loop-init g c = let old = c.args.cache.now in record { clears = clearings_none (parts old.mind (g.D.Disk.state old.main).holds (g.D.Disk.faults old.main)); ending = ending_none (g.D.Disk.state old.main) (g.D.Disk.faults old.main) (parts old.mind [] 0); fewer = omega arith; left = omega arith; device = refl }

pub loop-preserved : goal.loop-preserved
loop-preserved g c =
    let l = c.clear_next.ensures.less (search rules) in
    let was = c.loop.invariant.fewer in
    record {
      clears = clearings_on c.loop.invariant.clears c.clear_next.ensures.clears;
      ending = ending_on c.loop.invariant.ending c.clear_next.ensures.ending;
      fewer = omega (arith, l, was);
      left = let x = c.loop.invariant.left in let y = c.clear_next.ensures.left in omega (arith, x, y);
      device = c.clear_next.ensures.device ∙ c.loop.invariant.device;
    }

pub returns-clause-clears : goal.returns-clause-clears
returns-clause-clears g c = clearings_on c.loop.invariant.clears c.clear_next.ensures.clears

pub returns-clause-ending : goal.returns-clause-ending
returns-clause-ending g c = ending_on c.loop.invariant.ending c.clear_next.ensures.ending

pub returns-clause-left : goal.returns-clause-left
returns-clause-left g c = let x = c.loop.invariant.left in let y = c.clear_next.ensures.left in omega (arith, x, y)
