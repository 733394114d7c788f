-- The division finds each year by its first day and its last, and so by every day between.
use native.Mathlib.Omega.{arith}
use Rattle.calendar.proofs.Years.{year_placed}
use Rattle.calendar.proofs.year.year_at.Goals as goal

pub returns : goal.returns
returns c = rw c.even_days.ensures (year_placed c.args.day c.requires (omega arith))
