use Rattle.std.proofs.Common.{◌≡◌, ◌∙◌, refl, sym, ap, ℕ, zero, suc, ◌+◌, add-one, arith}
use Rattle.fo_world.specs.Date.{Date, date_of_day, day_after}
use Rattle.fo_dates.proofs.date.date_of.Goals as goal

first_day : date_of_day 0 ≡ record { year = 1970; month = 1; day = 1 }
unfolding date_of_day
first_day = refl

next_day : (n : ℕ) → date_of_day (n + 1) ≡ day_after (date_of_day n)
unfolding date_of_day
next_day n = rw add-one refl

pub loop-day-init : goal.loop-day-init
loop-day-init c = record { date = sym first_day; year = omega arith }

pub loop-day-preserved : goal.loop-day-preserved
loop-day-preserved c =
    record {
      date = c.next-date.ensures.date ∙ ap day_after c.loop-day.invariant.date ∙ sym (next_day c.loop-day.day);
      year = omega arith;
    }
