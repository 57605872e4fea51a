use Rattle.std.proofs.Common.{⊎_elim, length, ap, arith}
use Rattle.fo_ending.proofs.Stepping.{steps_on}
use Rattle.fo_ending.proofs.drain.close_some.Goals as goal

pub returns-in_err-close_slowly-clause-steps : goal.returns-in_err-close_slowly-clause-steps
returns-in_err-close_slowly-clause-steps g c = steps_on c.close_on.ensures.steps c.close_slowly.ensures.steps

pub returns-clause-over : goal.returns-clause-over
returns-clause-over g c = c.is_empty.ensures.none

pub returns-clause-again : goal.returns-clause-again
returns-clause-again g c = λ e. let done = c.in_ok-close_slowly.ensures in record { some = c.is_empty.ensures.some e; quiet = done.quiet; calm = done.calm }

pub returns-clause-less : goal.returns-clause-less
returns-clause-less g c = λ e. ⊎_elim
    (λ none. let some = c.is_empty.ensures.some e in let n = ap length none in absurd (omega (arith, some, n)))
    (λ lt. let few = c.close_on.ensures.fewer in omega (arith, lt, few))
    c.in_ok-close_slowly.ensures.less

pub returns-clause-steps : goal.returns-clause-steps
returns-clause-steps g c = steps_on c.close_on.ensures.steps c.close_slowly.ensures.steps
