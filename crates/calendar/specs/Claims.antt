-- 02, 1: what holds of the conversion between days and dates, each way, for every day and every date.
use Rattle.std.specs.Prelude.{◌≡◌, true, ℕ, ◌+◌, ◌≤◌, ◌<◌}
use Rattle.calendar.specs.declared.date.Date.{Date}
use Rattle.calendar.specs.Year.{first_year, years_held, year_start}
use Rattle.calendar.specs.Date.{date, is_in_calendar, no_date, first_date, last_day, date_of, day_of}

-- an earlier year; or the same year and an earlier month; or the same month and an earlier day
pub data Earlier (a b : Date) : Type 0 where
  by_year : a.year < b.year → Earlier a b
  by_month : a.year ≡ b.year → a.month < b.month → Earlier a b
  by_day : a.year ≡ b.year → a.month ≡ b.month → a.day < b.day → Earlier a b

-- the date of the last day
abbrev pub last_date : Date
last_date = date 2179 6 5

-- THE CLAIM
pub record CalendarHolds : Type 0 where
  -- back and forth is the identity, each way, where the answer is not zeros
  pub forth : (day : ℕ) → (date_of day ≡ no_date → ⊥) → day_of (date_of day) ≡ day
  pub back : (d : Date) → (day_of d ≡ 0 → ⊥) → date_of (day_of d) ≡ d
  -- the date of a day is in the calendar, and later days have later dates
  pub inside : (day : ℕ) → 1 ≤ day → day ≤ last_day → is_in_calendar (date_of day) ≡ true
  pub rise : (earlier later : ℕ) → 1 ≤ earlier → earlier < later → later ≤ last_day → Earlier (date_of earlier) (date_of later)
  -- the first day and the last, and no date of the calendar between them is left out
  pub first : date_of 1 ≡ first_date
  pub last : date_of last_day ≡ last_date
  pub whole : (d : Date) → is_in_calendar d ≡ true → (Earlier d first_date → ⊥) → (Earlier last_date d → ⊥) → 1 ≤ day_of d
  -- the table's rule gives "the day numbers on which the years 2000 to 2179 begin"
  pub starts : (k : ℕ) → k < years_held → date_of (year_start k) ≡ date (first_year + k) 1 1
  -- "(2000: 1, 2001: 367, 2100: 36526, 2101: 36891)"
  pub named : (year_start 0 ≡ 1) × ((year_start 1 ≡ 367) × ((year_start 100 ≡ 36526) × (year_start 101 ≡ 36891)))
