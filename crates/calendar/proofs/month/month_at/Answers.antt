-- The division finds each month by its first day and its last, and so by every day between. The day is below 369, and twelve of it fit.
use Prim.Native.Nat.{◌<◌}
use native.Mathlib.Omega.{arith}
use Rattle.calendar.proofs.Months.{year_most, even_most, month_placed}
use Rattle.calendar.proofs.month.month_at.Goals as goal

pub even_day-requires : goal.even_day-requires
even_day-requires c = omega (arith, c.requires, year_most c.args.leap)

pub overflow_mul-result : goal.overflow_mul-result
overflow_mul-result c = let a = c.args in omega (arith, c.even_day.ensures, even_most a.leap a.day, c.requires, year_most a.leap)

pub overflow_add-result : goal.overflow_add-result
overflow_add-result c = let a = c.args in omega (arith, c.even_day.ensures, even_most a.leap a.day, c.requires, year_most a.leap)

pub returns : goal.returns
returns c = let a = c.args in rw c.even_day.ensures (month_placed a.leap a.day c.requires)
