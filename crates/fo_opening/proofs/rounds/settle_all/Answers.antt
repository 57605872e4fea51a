use Rattle.std.proofs.Common.{[], ◌∙◌, arith, refl}
use Rattle.std.proofs.lemmas.Result.{err_from_is_err_and}
use Rattle.fo_mind.specs.MindParts.{parts}
use Rattle.fo_reserving.proofs.of_settling.Clearing.{clearings_none, clearings_on}
use Rattle.fo_opening.proofs.Stepping.{ending_none, ending_on, free_after}
use Rattle.fo_opening.proofs.rounds.settle_all.Goals as goal

pub settle_round-requires : goal.settle_round-requires
settle_round-requires g c = record { free = free_after c.loop.invariant.ending c.requires.free }

pub loop-init : goal.loop-init
loop-init g c = let old = c.args.cache.now in record { clears = clearings_none (parts old.mind (g.D.Disk.state old.main).holds (g.D.Disk.faults old.main)); ending = ending_none (g.D.Disk.state old.main) (g.D.Disk.faults old.main) (parts old.mind [] 0); size = refl; spent = omega arith; later = omega arith }

pub loop-preserved : goal.loop-preserved
loop-preserved g c =
    let a = c.loop.invariant.later in
    let b = c.settle_round.ensures.later in
    record {
      clears = clearings_on c.loop.invariant.clears c.settle_round.ensures.clears;
      ending = ending_on c.loop.invariant.ending c.settle_round.ensures.ending;
      size = c.settle_round.ensures.size ∙ c.loop.invariant.size;
      spent = let x = c.loop.invariant.spent in let y = c.in_ok-settle_round.ensures.spent in omega (arith, x, y);
      later = omega (arith, a, b);
    }

pub returns-in_err-settle_round-clause-clears : goal.returns-in_err-settle_round-clause-clears
returns-in_err-settle_round-clause-clears g c = clearings_on c.loop.invariant.clears c.settle_round.ensures.clears

pub returns-in_err-settle_round-clause-ending : goal.returns-in_err-settle_round-clause-ending
returns-in_err-settle_round-clause-ending g c = ending_on c.loop.invariant.ending c.settle_round.ensures.ending

pub returns-in_err-settle_round-clause-failed : goal.returns-in_err-settle_round-clause-failed
returns-in_err-settle_round-clause-failed g c =
    let x = err_from_is_err_and c.from_residual.result c.from_residual.ensures.1 in
    rw (x.1, x.2) c.in_err-settle_round.ensures.failed

pub returns-clause-clears : goal.returns-clause-clears
returns-clause-clears g c = clearings_on c.loop.invariant.clears c.settle_round.ensures.clears

pub returns-clause-ending : goal.returns-clause-ending
returns-clause-ending g c = ending_on c.loop.invariant.ending c.settle_round.ensures.ending

pub returns-in_err-settle_round-clause-calls : goal.returns-in_err-settle_round-clause-calls
returns-in_err-settle_round-clause-calls g c =
    let x = c.loop.invariant.spent in
    let y = c.settle_round.ensures.calls in
    omega (arith, x, y)

pub returns-clause-calls : goal.returns-clause-calls
returns-clause-calls g c =
    let x = c.loop.invariant.spent in
    let y = c.in_ok-settle_round.ensures.spent in
    omega (arith, x, y)
