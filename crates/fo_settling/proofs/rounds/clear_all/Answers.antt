use Rattle.std.proofs.Common.{◌∙◌, arith, rules}
use Rattle.fo_cache.proofs.Easing.{eases_on}
use Rattle.fo_settling.proofs.Clearing.{clearings_on}
use Rattle.fo_settling.proofs.Costing.{touches_on}
use Rattle.fo_settling.proofs.rounds.clear_all.Goals as goal

pub returns-clause-eases : goal.returns-clause-eases
returns-clause-eases g c = eases_on c.loop.invariant.eases c.clear_next.ensures.eases

pub loop-preserved : goal.loop-preserved
loop-preserved g c =
    let l = c.clear_next.ensures.less (search rules) in
    let was = c.loop.invariant.fewer in
    record {
      eases = eases_on c.loop.invariant.eases c.clear_next.ensures.eases;
      clears = clearings_on c.loop.invariant.clears c.clear_next.ensures.clears;
      touches = touches_on c.loop.invariant.touches c.clear_next.ensures.touches;
      fewer = omega (arith, l, was);
      left = let x = c.loop.invariant.left in let y = c.clear_next.ensures.left in omega (arith, x, y);
      device = c.clear_next.ensures.device ∙ c.loop.invariant.device;
    }

pub returns-clause-clears : goal.returns-clause-clears
returns-clause-clears g c = clearings_on c.loop.invariant.clears c.clear_next.ensures.clears

pub returns-clause-left : goal.returns-clause-left
returns-clause-left g c = let x = c.loop.invariant.left in let y = c.clear_next.ensures.left in omega (arith, x, y)

pub returns-clause-touches : goal.returns-clause-touches
returns-clause-touches g c = touches_on c.loop.invariant.touches c.clear_next.ensures.touches

pub returns-clause-none : goal.returns-clause-none
returns-clause-none g c = c.clear_next.ensures.none (search rules)
