-- 02, 1: leap years, and "the day numbers on which the years 2000 to 2179 begin".
use Rattle.std.specs.Prelude.{Bool, not, cond, ◌&&◌, ◌||◌, ℕ, zero, suc, ◌+◌, ◌%◌, eqb}

-- a year divides by k
abbrev pub divides : ℕ → ℕ → Bool
divides k year = eqb (year % k) 0

-- the calendar's rule: a leap year divides by 4, and not by 100 unless by 400
unfoldable pub is_leap : ℕ → Bool
is_leap year = divides 4 year && (not (divides 100 year) || divides 400 year)

-- the days of a year
unfoldable pub year_length : ℕ → ℕ
year_length year = cond (is_leap year) 366 365

-- day numbers begin with the year 2000, and the table has 180 years
abbrev pub first_year : ℕ
first_year = 2000

abbrev pub years_held : ℕ
years_held = 180

-- the day number on which a year begins, the year counted from 2000: 1 for 2000, and for each other as many days on as the year before has.
-- This is the table's rule. No date is defined by it.
unfoldable pub year_start : ℕ → ℕ
year_start zero = 1
year_start (suc k) = year_start k + year_length (first_year + k)
