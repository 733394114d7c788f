-- The division gives the start of each of the twelve months.
use Prim.Native.Nat.{◌+◌, ◌*◌, ◌/◌, ◌≤◌}
use native.Mathlib.Omega.{arith}
use native.Mathlib.Nat.{le-div_iff_mul-le}
use borrow.Author.Tests.{lt-ltb, le-ltb}
use Rattle.calendar.proofs.Months.{lacking_bounds, days_before_at}
use Rattle.calendar.proofs.month.days_before.Goals as goal

pub returns-then-month-lt2 : goal.returns-then-month-lt2
returns-then-month-lt2 c =
    let a = c.args in
    rw (lt-ltb a.month 2 c.if-month-lt2.true) at (days_before_at a.leap a.month c.requires)

pub overflow_sub-result : goal.overflow_sub-result
overflow_sub-result c =
    let a = c.args in
    let two : 2 ≤ (367 * a.month + 5) / 12 = (le-div_iff_mul-le {k = 12} {x = 2} {y = 367 * a.month + 5} (omega arith)).1 (omega arith) in
    omega (arith, c.lacking.ensures, (lacking_bounds a.leap).1)

pub returns : goal.returns
returns c =
    let a = c.args in
    rw c.lacking.ensures (rw (le-ltb a.month 2 c.if-month-lt2.false) at (days_before_at a.leap a.month c.requires))
