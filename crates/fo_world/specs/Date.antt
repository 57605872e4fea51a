-- Dates in UTC, from seconds since 1970-01-01 (the Gregorian calendar; ctime(2) of the Plan 9 manual).
use Rattle.std.specs.Prelude.{ℕ, zero, suc, ◌+◌, ◌*◌, ◌/◌, ◌%◌, Bool, not, ◌&&◌, ◌||◌, ◌==◌, nat_lt, if◌then◌else◌}

pub record Date : Type 0 where
  pub year : ℕ
  pub month : ℕ
  pub day : ℕ

-- every fourth year, but of the centuries only every fourth
abbrev pub is_leap_year : ℕ → Bool
is_leap_year year = (year % 4 == 0) && (not (year % 100 == 0) || (year % 400 == 0))

-- thirty days have September, April, June and November
abbrev pub days_in_month : ℕ → ℕ → ℕ
days_in_month year month =
    if month == 2 then (if is_leap_year year then 29 else 28)
    else (if (month == 4) || (month == 6) || (month == 9) || (month == 11) then 30 else 31)

-- the day after: the next of the month, or the first of the next month or year
abbrev pub day_after : Date → Date
day_after d =
    if nat_lt d.day (days_in_month d.year d.month) then record { year = d.year; month = d.month; day = d.day + 1 }
    else (if nat_lt d.month 12 then record { year = d.year; month = d.month + 1; day = 1 }
    else record { year = d.year + 1; month = 1; day = 1 })

-- the date of the day with this number, where day 0 is 1970-01-01
unfoldable pub date_of_day : ℕ → Date
date_of_day zero = record { year = 1970; month = 1; day = 1 }
date_of_day (suc n) = day_after (date_of_day n)

abbrev pub date_of : ℕ → Date
date_of time = date_of_day (time / 86400)

-- the month and the day as one number, mmdd
abbrev pub monthday_of : Date → ℕ
monthday_of d = d.month * 100 + d.day

-- the hour and the minute as one number, hhmm
abbrev pub hour_minute_of : ℕ → ℕ
hour_minute_of time = time % 86400 / 3600 * 100 + time % 3600 / 60
