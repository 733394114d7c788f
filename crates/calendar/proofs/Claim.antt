-- The claim's parts, from what is known of the dates of days and the days of dates.
use mathlib.Core.Path.{◌≡◌, refl, subst, ◌∙◌}
use mathlib.Core.Bool.{Bool, true, false}
use Prim.Native.Nat.{ℕ, zero, suc, ◌+◌, ◌-◌, ◌≤◌, ◌<◌}
use native.Mathlib.Omega.{arith}
use borrow.Author.Tests.{ltb-true, ltb-false}
use lib.Dec.{ltb}
use Rattle.calendar.specs.declared.date.Date.{Date}
use Rattle.calendar.specs.Year.{is_leap, year_length, year_start, first_year, years_held}
use Rattle.calendar.specs.Month.{has_thirty, length_in, month_length}
use Rattle.calendar.specs.Date.{date, is_in_calendar, no_date, after, first_date, last_day, date_of, day_of}
use Rattle.calendar.specs.Claims.{Earlier, by_year, last_date, CalendarHolds}
use Rattle.calendar.specs.Inner.Placed.{days_before}
use Rattle.calendar.proofs.Years.{start_bounds}
use Rattle.calendar.proofs.Counting.{to_year}
use Rattle.calendar.proofs.Order.{calendar_true, true_calendar, after_in}
use Rattle.calendar.proofs.Search.{date_past, after_earlier, Found, has, none, found_day}
use Rattle.calendar.proofs.Dates.{day_some, number_of, counted, number_some, day_number, date_day}

forth : (day : ℕ) → (date_of day ≡ no_date → ⊥) → day_of (date_of day) ≡ day
unfolding date_of
forth zero h = absurd (h refl)
forth (suc n) h = by_test (ltb n last_day) refl
  where
    by_test : (b : Bool) → ltb n last_day ≡ b → day_of (date_of (suc n)) ≡ suc n
    by_test true e = day_some (date_of (suc n)) n (ltb-true n last_day e) refl
    by_test false e = absurd (h (date_past n (ltb-false n last_day e)))

back : (d : Date) → (day_of d ≡ 0 → ⊥) → date_of (day_of d) ≡ d
back d h = of_found (day_of d) refl (found_day d)
  where
    of_found : (day : ℕ) → day_of d ≡ day → Found last_day d day → date_of day ≡ d
    of_found day e (has j l f) = f
    of_found day e (none _) = absurd (h e)

inside : (day : ℕ) → 1 ≤ day → day ≤ last_day → is_in_calendar (date_of day) ≡ true
inside day h l = rw date_day (true_calendar (after_in (day - 1)))

rise : (earlier later : ℕ) → 1 ≤ earlier → earlier < later → later ≤ last_day → Earlier (date_of earlier) (date_of later)
rise earlier later h l m =
    rw (date_day earlier h (omega arith), date_day later (omega arith) m) (after_earlier (earlier - 1) (later - 1) (omega arith))

last_in : is_in_calendar last_date ≡ true
unfolding is_in_calendar month_length length_in has_thirty
last_in = refl

last_number : last_day ≡ number_of last_date
unfolding year_start year_length is_leap days_before length_in has_thirty
last_number = refl

last_counted : after (last_day - 1) first_date ≡ last_date
last_counted = counted last_date (calendar_true last_date last_in) (omega arith) (last_day - 1) last_number

first : date_of 1 ≡ first_date
unfolding date_of after
first = refl

whole : (d : Date) → is_in_calendar d ≡ true → (Earlier d first_date → ⊥) → (Earlier last_date d → ⊥) → 1 ≤ day_of d
whole d h f l = by_tests (ltb d.year first_year) refl (ltb last_day (number_of d)) refl
  where
    late : first_year ≤ d.year → last_day < number_of d → Earlier last_date d
    late y n =
        subst (Earlier last_date) (counted d (calendar_true d h) y (number_of d - 1) (number_some d (calendar_true d h) y))
        (subst (λ (x : Date). Earlier x (after (number_of d - 1) first_date)) last_counted (after_earlier (last_day - 1) (number_of d - 1) (omega arith)))

    by_tests : (x : Bool) → ltb d.year first_year ≡ x → (y : Bool) → ltb last_day (number_of d) ≡ y → 1 ≤ day_of d
    by_tests true p y q = absurd (f (by_year (ltb-true d.year first_year p)))
    by_tests false p true q = absurd (l (late (ltb-false d.year first_year p) (ltb-true last_day (number_of d) q)))
    by_tests false p false q =
        let y = ltb-false d.year first_year p in
        omega (arith, day_number d (calendar_true d h) y (ltb-false last_day (number_of d) q), (start_bounds (d.year - first_year)).0)

starts : (k : ℕ) → k < years_held → date_of (year_start k) ≡ date (first_year + k) 1 1
starts k h =
    let b = start_bounds k in
    date_day (year_start k) (omega arith) (omega arith) ∙ to_year k (year_start k - 1) (omega arith)

named : (year_start 0 ≡ 1) × ((year_start 1 ≡ 367) × ((year_start 100 ≡ 36526) × (year_start 101 ≡ 36891)))
unfolding year_start year_length is_leap
named = (refl, (refl, (refl, refl)))

pub calendar : CalendarHolds
calendar =
    record {
      forth = forth;
      back = back;
      inside = inside;
      rise = rise;
      first = first;
      last = date_day last_day (omega arith) (omega arith) ∙ last_counted;
      whole = whole;
      starts = starts;
      named = named;
    }
