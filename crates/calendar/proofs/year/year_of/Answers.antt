-- A day's date is in the year that the division finds.
use mathlib.Core.Path.{sym}
use native.Mathlib.Omega.{arith}
use Rattle.calendar.specs.Date.{date_of}
use Rattle.calendar.proofs.Dates.{year_at_date}
use Rattle.calendar.proofs.year.year_of.Goals as goal

pub returns-then-day-eq0 : goal.returns-then-day-eq0
unfolding date_of
returns-then-day-eq0 c = rw c.if-day-eq0.true

pub returns : goal.returns
returns c = sym (year_at_date c.args.day c.year_at.result c.year_at.ensures (omega arith))
