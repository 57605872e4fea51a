use Rattle.std.proofs.Common.{◌∙◌, arith}
use Rattle.fo_cache.proofs.Easing.{eases_on}
use Rattle.fo_settling.proofs.Clearing.{clearings_on}
use Rattle.fo_settling.proofs.Costing.{fewer_on, spends_end, spends_on}
use Rattle.fo_settling.proofs.rounds.settle_rounds.Goals as goal

pub returns-in_err-settle_round-clause-eases : goal.returns-in_err-settle_round-clause-eases
returns-in_err-settle_round-clause-eases g c = eases_on c.loop.invariant.eases c.settle_round.ensures.eases

pub returns-clause-eases : goal.returns-clause-eases
returns-clause-eases g c = eases_on c.loop.invariant.eases c.settle_round.ensures.eases

pub loop-preserved : goal.loop-preserved
loop-preserved g c =
    let a = c.loop.invariant.later in
    let b = c.settle_round.ensures.later in
    record {
      eases = eases_on c.loop.invariant.eases c.settle_round.ensures.eases;
      clears = clearings_on c.loop.invariant.clears c.settle_round.ensures.clears;
      size = c.settle_round.ensures.size ∙ c.loop.invariant.size;
      spent = let x = c.loop.invariant.spent in let y = c.in_ok-settle_round.ensures.spent in omega (arith, x, y);
      spends = spends_on c.loop.invariant.spends c.loop.invariant.waits c.in_ok-settle_round.ensures.spends;
      waits = fewer_on c.loop.invariant.waits c.in_ok-settle_round.ensures.waits;
      later = omega (arith, a, b);
    }

pub returns-in_err-settle_round-clause-clears : goal.returns-in_err-settle_round-clause-clears
returns-in_err-settle_round-clause-clears g c = clearings_on c.loop.invariant.clears c.settle_round.ensures.clears

pub returns-clause-clears : goal.returns-clause-clears
returns-clause-clears g c = clearings_on c.loop.invariant.clears c.settle_round.ensures.clears

pub returns-in_err-settle_round-clause-calls : goal.returns-in_err-settle_round-clause-calls
returns-in_err-settle_round-clause-calls g c =
    let x = c.loop.invariant.spent in
    let y = c.settle_round.ensures.calls in
    omega (arith, x, y)

pub returns-clause-calls : goal.returns-clause-calls
returns-clause-calls g c =
    let x = c.loop.invariant.spent in
    let y = c.in_ok-settle_round.ensures.spent in
    omega (arith, x, y)

pub returns-clause-done : goal.returns-clause-done
returns-clause-done g c = c.in_ok-settle_round.ensures.done c.if-not-branch.false

pub returns-in_err-settle_round-clause-made : goal.returns-in_err-settle_round-clause-made
returns-in_err-settle_round-clause-made g c = spends_on c.loop.invariant.spends c.loop.invariant.waits c.settle_round.ensures.made

pub returns-clause-made : goal.returns-clause-made
returns-clause-made g c = spends_end (spends_on c.loop.invariant.spends c.loop.invariant.waits c.in_ok-settle_round.ensures.spends)
