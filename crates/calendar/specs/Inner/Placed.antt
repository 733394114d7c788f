-- Where a day lies among the starts of years and months, and the divisions that find it.
use Rattle.std.specs.Prelude.{Bool, cond, ℕ, zero, suc, ◌+◌, ◌-◌, ◌*◌, ◌/◌, ◌≤◌, ◌<◌, ltb}
use Rattle.calendar.specs.Year.{year_start, years_held}
use Rattle.calendar.specs.Month.{length_in, months_in_year}

-- the days of a year before a month, the month counted from 0
unfoldable pub days_before : Bool → ℕ → ℕ
days_before leap zero = 0
days_before leap (suc m) = days_before leap m + length_in leap (suc m)

-- a day falls in the k-th of so many spans, each of which ends where the next starts
pub record Placed (start : ℕ → ℕ) (count day k : ℕ) : Type 0 where
  pub held : k < count
  pub from : start k ≤ day
  pub to : day < start (suc k)

-- the year that a day falls in, counted from 2000
abbrev pub YearAt : ℕ → ℕ → Type 0
YearAt day k = Placed year_start years_held day k

-- the month that a day of the year falls in, both counted from 0
abbrev pub MonthAt : Bool → ℕ → ℕ → Type 0
MonthAt leap day m = Placed (days_before leap) months_in_year day m

-- ---- by division
-- the day on which 2101 begins
abbrev pub start_of2101 : ℕ
start_of2101 = 36891

-- the days before a day, and from 2101 on one more for the leap day that 2100 lacks
unfoldable pub even_days : ℕ → ℕ
even_days day = cond (ltb day start_of2101) (day - 1) day

-- the year that a day falls in
abbrev pub year_by : ℕ → ℕ
year_by day = 4 * even_days day / 1461

-- the days that February lacks to thirty
unfoldable pub lacking_in : Bool → ℕ
lacking_in leap = cond leap 1 2

-- a day of the year, counted as if February had thirty
unfoldable pub even_day : Bool → ℕ → ℕ
even_day leap day = cond (ltb (day + lacking_in leap) 61) day (day + lacking_in leap)

-- the days of the year before a month
abbrev pub start_by : Bool → ℕ → ℕ
start_by leap m = cond (ltb m 2) ((367 * m + 5) / months_in_year) ((367 * m + 5) / months_in_year - lacking_in leap)

-- the month that a day of the year falls in
abbrev pub month_by : Bool → ℕ → ℕ
month_by leap day = (months_in_year * even_day leap day + 6) / 367
