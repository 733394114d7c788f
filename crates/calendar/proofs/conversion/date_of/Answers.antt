-- The year and the month that the divisions find are those of the day's date.
use mathlib.Core.Path.{◌≡◌, sym}
use mathlib.Core.Bool.{Bool}
use Prim.Native.Nat.{ℕ, ◌+◌, ◌-◌, ◌≤◌, ◌<◌}
use native.Mathlib.Omega.{arith}
use Rattle.calendar.specs.Year.{is_leap, year_start, first_year}
use Rattle.calendar.specs.Date.{date, date_of, last_day}
use Rattle.calendar.specs.Inner.Placed.{days_before, MonthAt, YearAt}
use Rattle.calendar.proofs.Dates.{of_year_below, of_month_below, date_at}
use Rattle.calendar.proofs.conversion.date_of.Goals as goal

module _ (day k m before : ℕ) (leap : Bool) (at : YearAt day k) (most : day ≤ last_day) (e : leap ≡ is_leap (first_year + k)) (start : ℕ) (s : start ≡ year_start k) (month : MonthAt leap (day - start) m) (b : before ≡ days_before leap m) where
  month_of : MonthAt (is_leap (first_year + k)) (day - year_start k) m
  month_of = rw (s, e) at month

  before_of : before ≡ days_before (is_leap (first_year + k)) m
  before_of = rw e at b

  below : day - start - before < 31
  below = rw (s, before_of) (of_month_below day k at most m month_of)

  dated : date (first_year + k) (m + 1) (day - start - before + 1) ≡ date_of day
  dated = rw (s, before_of) (sym (date_at day k at most m month_of))

pub returns-then-day-eq0 : goal.returns-then-day-eq0
unfolding date_of
returns-then-day-eq0 c = rw c.if-day-eq0.true

pub month_at-months-requires : goal.month_at-months-requires
month_at-months-requires c =
    rw (c.year_start.ensures, c.is_leap-leap.ensures) (of_year_below c.args.day c.year_at-years.result c.year_at-years.ensures (omega arith))

pub overflow_add-day_of_month : goal.overflow_add-day_of_month
overflow_add-day_of_month c =
    omega (arith, below c.args.day _ _ _ _ c.year_at-years.ensures (omega arith) c.is_leap-leap.ensures _ c.year_start.ensures c.month_at-months.ensures c.days_before.ensures)

pub overflow_cast-day_of_month : goal.overflow_cast-day_of_month
overflow_cast-day_of_month c =
    omega (arith, below c.args.day _ _ _ _ c.year_at-years.ensures (omega arith) c.is_leap-leap.ensures _ c.year_start.ensures c.month_at-months.ensures c.days_before.ensures)

pub returns : goal.returns
returns c =
    dated c.args.day _ _ _ _ c.year_at-years.ensures (omega arith) c.is_leap-leap.ensures _ c.year_start.ensures c.month_at-months.ensures c.days_before.ensures
