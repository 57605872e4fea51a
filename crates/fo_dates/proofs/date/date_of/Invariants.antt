use Rattle.std.proofs.Common.{◌≡◌, ◌+◌, ◌≤◌}
use Rattle.fo_world.specs.Date.{date_of_day}
use Rattle.fo_dates.proofs.date.date_of.Given as goal

abbrev pub invariant-loop-day : goal.invariant-loop-day
invariant-loop-day l = record { date : l.date ≡ date_of_day l.day; year : l.date.year ≤ 1970 + l.day }
