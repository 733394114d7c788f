-- 02, 1: "conversion between day number and year, month, day: the calendar date of each day from 1 to 65,535 and back, and zeros for any other
-- day or date."
use Rattle.std.specs.Prelude.{Bool, cond, ◌&&◌, ℕ, zero, suc, ◌+◌, eqb, leb, ltb}
use Rattle.calendar.specs.declared.date.Date.{Date}
use Rattle.calendar.specs.Month.{month_length, months_in_year}

abbrev pub date : ℕ → ℕ → ℕ → Date
date year month day = record { year = year; month = month; day = day }

-- a date of the calendar: a month from 1 to 12, and a day from 1 to the month's last
unfoldable pub is_in_calendar : Date → Bool
is_in_calendar d =
    (leb 1 d.month && leb d.month months_in_year) && (leb 1 d.day && leb d.day (month_length d.year d.month))

-- the zeros for what has no date
abbrev pub no_date : Date
no_date = date 0 0 0

-- the day after: the next of the month; after the month's last the first of the next month; after December's last 1 January
unfoldable pub next : Date → Date
next d =
    cond (ltb d.day (month_length d.year d.month))
    (date d.year d.month (d.day + 1))
    (cond (ltb d.month months_in_year) (date d.year (d.month + 1) 1) (date (d.year + 1) 1 1))

-- the date that counting on day by day, n times, leads to
unfoldable pub after : ℕ → Date → Date
after zero d = d
after (suc n) d = next (after n d)

-- "day 1 is 1 January 2000"
abbrev pub first_date : Date
first_date = date 2000 1 1

abbrev pub last_day : ℕ
last_day = 65535

-- "the calendar date of each day from 1 to 65,535", "and zeros for any other day"
unfoldable pub date_of : ℕ → Date
date_of zero = no_date
date_of (suc n) = cond (ltb n last_day) (after n first_date) no_date

unfoldable pub is_same : Date → Date → Bool
is_same a b = eqb a.year b.year && (eqb a.month b.month && eqb a.day b.day)

-- the last day from 1 to n that has this date, and 0 where none has
unfoldable pub day_up_to : ℕ → Date → ℕ
day_up_to zero d = 0
day_up_to (suc n) d = cond (is_same (date_of (suc n)) d) (suc n) (day_up_to n d)

-- "and back": the day from 1 to 65,535 that has this date, and 0 where none has, as for a date that is not in the calendar
unfoldable pub day_of : Date → ℕ
day_of d = day_up_to last_day d
