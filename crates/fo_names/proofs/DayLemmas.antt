-- The dates counted from 1970-01-01 on are those of the calendar with the same day number.
use Rattle.std.proofs.Common.{◌≡◌, ℕ, zero, suc, ◌+◌, ◌<◌, ◌≤◌, ◌==◌, cond, nat_lt, ℤ, pos, neg_ℤ, ◌+ℤ◌, ◌≤ℤ◌, Bool, true, false, ◌||◌, refl, sym, ap, subst, ◌⊎◌, inl, inr, ◌∙◌, arith, lit≤}
use Rattle.std.specs.Int.{IsInRange}
use Rattle.std.proofs.lemmas.Bool.{cond_both, ltb-true, ltb-false, cases_eq}
use Rattle.std.proofs.lemmas.Int.{ints}
use Rattle.jiff_core.specs.declared.civil.date.Date.{Date as Day}
use Rattle.jiff_core.specs.Calendar.{IsYear, is_leap_year, days_in_month, days_from_civil}
use Rattle.jiff.specs.Words.{epoch_day}
use Rattle.jiff.proofs.Family.{epoch_day_injective, days_from_civil-day, days_from_civil-next_month, days_from_civil-next_year, days_from_civil-max}
use Rattle.jiff.proofs.SpanFacts.{signed_arith}
use Rattle.jiff_core.proofs.StandardFacts.{known_days}
use Rattle.fo_world.specs.Date.{Date, day_after, date_of_day}

-- d is a day of the calendar, with this day number
record IsDay (d : Date) (n : ℕ) : Type 0 where
  year_in : IsYear (pos d.year)
  month_in : IsInRange 1 12 d.month
  day_in : IsInRange 1 (days_in_month (pos d.year) d.month) d.day
  number : days_from_civil (pos d.year) d.month d.day ≡ pos n

month_some : (y : ℤ) (m : ℕ) → 1 ≤ days_in_month y m
month_some y m =
    cond_both (m == 2) _ _ (λ k. 1 ≤ k)
    (λ e. cond_both (is_leap_year y) 29 28 (λ k. 1 ≤ k) (λ f. lit≤ tt) (λ f. lit≤ tt))
    (λ e. cond_both ((m == 4) || (m == 6) || (m == 9) || (m == 11)) 30 31 (λ k. 1 ≤ k) (λ f. lit≤ tt) (λ f. lit≤ tt))

next_day : (d : Date) (n : ℕ) → IsDay d n → d.day < days_in_month (pos d.year) d.month → IsDay (record { year = d.year; month = d.month; day = d.day + 1 }) (n + 1)
next_day d n h lt =
    let step = days_from_civil-day (pos d.year) d.month d.day (d.day + 1) h.day_in.0 (omega arith) in
    record {
      year_in = h.year_in;
      month_in = h.month_in;
      day_in = (omega arith, omega arith);
      number = omega (arith, signed_arith, step, h.number);
    }

last_of_month : (d : Date) (n : ℕ) → IsDay d n → days_in_month (pos d.year) d.month ≤ d.day → d.day ≡ days_in_month (pos d.year) d.month
last_of_month d n h le = let two = h.day_in in omega arith

next_month : (d : Date) (n : ℕ) → IsDay d n → days_in_month (pos d.year) d.month ≤ d.day → d.month < 12 → IsDay (record { year = d.year; month = d.month + 1; day = 1 }) (n + 1)
next_month d n h le lt =
    let step = days_from_civil-next_month (pos d.year) d.month d.day h.month_in.0 (last_of_month d n h le) in
    record {
      year_in = h.year_in;
      month_in = (omega arith, omega arith);
      day_in = (omega arith, month_some (pos d.year) (d.month + 1));
      number = omega (arith, signed_arith, step, h.number);
    }

-- only the last day of the year 9999 has no day after it
later_year : (y n : ℕ) → IsYear (pos y) → days_from_civil (pos y) 12 31 ≡ pos n → n < 2_932_896 → IsYear (pos (y + 1))
later_year y n h end small =
    elim (cases_eq y 9999) [
      | inl e ↦
          let top = ap (λ k. days_from_civil (pos k) 12 31) (sym e) ∙ end in
          absurd (omega (arith, signed_arith, days_from_civil-max, top))
      | inr ne ↦ (omega (arith, signed_arith), omega (arith, signed_arith, h.1, ne))
    ]

next_year : (d : Date) (n : ℕ) → IsDay d n → days_in_month (pos d.year) d.month ≤ d.day → 12 ≤ d.month → n < 2_932_896 → IsDay (record { year = d.year + 1; month = 1; day = 1 }) (n + 1)
next_year d n h le last small =
    let m12 : d.month ≡ 12 = let two = h.month_in in omega arith in
    let d31 : d.day ≡ 31 = last_of_month d n h le ∙ ap (days_in_month (pos d.year)) m12 in
    let end : days_from_civil (pos d.year) 12 31 ≡ pos n = (λ i. days_from_civil (pos d.year) (sym m12 i) (sym d31 i)) ∙ h.number in
    let step = days_from_civil-next_year (pos d.year) (pos (d.year + 1)) (omega (arith, signed_arith)) (omega (arith, signed_arith)) in
    record {
      year_in = later_year d.year n h.year_in end small;
      month_in = (lit≤ tt, lit≤ tt);
      day_in = (lit≤ tt, month_some (pos (d.year + 1)) 1);
      number = omega (arith, signed_arith, step, end);
    }

day_after_is : (d : Date) (n : ℕ) → IsDay d n → n < 2_932_896 → IsDay (day_after d) (n + 1)
day_after_is d n h small =
    cond_both (nat_lt d.day (days_in_month (pos d.year) d.month)) _ _ (λ e. IsDay e (n + 1))
    (λ e. next_day d n h (ltb-true _ _ e))
    (λ e. let le = ltb-false _ _ e in
    cond_both (nat_lt d.month 12) _ _ (λ e. IsDay e (n + 1))
    (λ f. next_month d n h le (ltb-true _ _ f))
    (λ f. next_year d n h le (ltb-false _ _ f) small))

day_is : (n : ℕ) → n ≤ 2_932_896 → IsDay (date_of_day n) n
unfolding date_of_day
day_is zero le = record { year_in = (omega (arith, signed_arith), omega (arith, signed_arith)); month_in = (lit≤ tt, lit≤ tt); day_in = (lit≤ tt, lit≤ tt); number = known_days.0 }
day_is (suc n) le =
    let more : n + 1 ≡ suc n = omega arith in
    subst (λ (m : ℕ). IsDay (day_after (date_of_day n)) m) more (day_after_is (date_of_day n) n (day_is n (omega arith)) (omega arith))

-- a day of the calendar with the number of a counted one is that one
pub counted : (d : Day) (n : ℕ) → n ≤ 2_932_896 → epoch_day d ≡ pos n → (d.year ≡ pos (date_of_day n).year) × (d.month ≡ (date_of_day n).month) × (d.day ≡ (date_of_day n).day)
counted d n le e =
    let h = day_is n le in
    let day : Day = record { year = pos (date_of_day n).year; month = (date_of_day n).month; day = (date_of_day n).day; year_in = h.year_in; month_in = h.month_in; day_in = h.day_in } in
    epoch_day_injective d day (e ∙ sym h.number)

pub first_day : (d : Day) → (d.year ≡ pos 1970) × (pos d.month ≡ pos 1) × (pos d.day ≡ pos 1) → epoch_day d ≡ pos 0
first_day d h =
    let m : d.month ≡ 1 = omega (arith, signed_arith, h.1) in
    let k : d.day ≡ 1 = omega (arith, signed_arith, h.2) in
    (λ i. days_from_civil (h.0 i) (m i) (k i)) ∙ known_days.0
