-- 02, 1: examples that fix the calendar. `CalendarHolds` is met by any twelve months that make up the years, a June of 31 days before a July of
-- 30 among them.
use Rattle.std.specs.Prelude.{◌≡◌, true, false, List, [], ◌∷◌, ℕ}
use Rattle.calendar.specs.Year.{is_leap, year_length}
use Rattle.calendar.specs.Month.{month_length}
use Rattle.calendar.specs.Date.{date, is_in_calendar, no_date, date_of}

-- the lengths of a year's months, January first
abbrev pub lengths : ℕ → List ℕ
lengths year =
    month_length year 1
    ∷ month_length year 2
    ∷ month_length year 3
    ∷ month_length year 4
    ∷ month_length year 5
    ∷ month_length year 6
    ∷ month_length year 7
    ∷ month_length year 8
    ∷ month_length year 9
    ∷ month_length year 10
    ∷ month_length year 11
    ∷ month_length year 12
    ∷ []

-- THE CLAIM: one row for each example
pub record CalendarExamplesHold : Type 0 where
  -- the twelve months, in a common year and in a leap year
  pub common_months : lengths 2001 ≡ 31 ∷ 28 ∷ 31 ∷ 30 ∷ 31 ∷ 30 ∷ 31 ∷ 31 ∷ 30 ∷ 31 ∷ 30 ∷ 31 ∷ []
  pub leap_months : lengths 2000 ≡ 31 ∷ 29 ∷ 31 ∷ 30 ∷ 31 ∷ 30 ∷ 31 ∷ 31 ∷ 30 ∷ 31 ∷ 30 ∷ 31 ∷ []
  -- a leap year divides by 4, and not by 100 unless by 400
  pub year_2000 : is_leap 2000 ≡ true
  pub year_2001 : is_leap 2001 ≡ false
  pub year_2002 : is_leap 2002 ≡ false
  pub year_2003 : is_leap 2003 ≡ false
  pub year_2004 : is_leap 2004 ≡ true
  pub year_2096 : is_leap 2096 ≡ true
  pub year_2100 : is_leap 2100 ≡ false
  pub year_2104 : is_leap 2104 ≡ true
  pub leap_days : year_length 2000 ≡ 366
  pub common_days : year_length 2001 ≡ 365
  -- the first and the last day of a month are in the calendar, and no day before or after them
  pub april_0 : is_in_calendar (date 2001 4 0) ≡ false
  pub april_1 : is_in_calendar (date 2001 4 1) ≡ true
  pub april_30 : is_in_calendar (date 2001 4 30) ≡ true
  pub april_31 : is_in_calendar (date 2001 4 31) ≡ false
  pub leap_february_29 : is_in_calendar (date 2000 2 29) ≡ true
  pub leap_february_30 : is_in_calendar (date 2000 2 30) ≡ false
  pub common_february_29 : is_in_calendar (date 2001 2 29) ≡ false
  -- there is no month 0 and no month 13
  pub month_0 : is_in_calendar (date 2001 0 1) ≡ false
  pub month_12 : is_in_calendar (date 2001 12 31) ≡ true
  pub month_13 : is_in_calendar (date 2001 13 1) ≡ false
  -- "the calendar date of each day": over the end of February, of June and of the year
  pub day_60 : date_of 60 ≡ date 2000 2 29
  pub day_61 : date_of 61 ≡ date 2000 3 1
  pub day_182 : date_of 182 ≡ date 2000 6 30
  pub day_183 : date_of 183 ≡ date 2000 7 1
  pub day_366 : date_of 366 ≡ date 2000 12 31
  -- "and zeros for any other day"
  pub day_0 : date_of 0 ≡ no_date
  pub day_65536 : date_of 65536 ≡ no_date
