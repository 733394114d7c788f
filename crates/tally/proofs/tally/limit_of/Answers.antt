-- A power of the table has four bytes, and past its end it is 0.
use mathlib.Core.Path.{sym}
use native.Mathlib.Omega.{arith}
use Rattle.arithmetic.proofs.Laws.{ten_at_most, past_table}
use Rattle.tally.proofs.tally.limit_of.Goals as goal

pub overflow_cast-result : goal.overflow_cast-result
overflow_cast-result c = omega (arith, ten_at_most c.args.dials, c.power.ensures)

pub returns : goal.returns
returns c = sym (past_table c.if-dials-lt10.false)
