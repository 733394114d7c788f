-- Each arm's tests are the definition's, in its order.
use borrow.Author.Tests.{ne_eqb}
use Rattle.rules.specs.Indicator.{indicated}
use Rattle.rules.proofs.indicator.indicate.Goals as goal

pub returns-then-indicator : goal.returns-then-indicator
unfolding indicated
returns-then-indicator c = rw (c.in-Rollover.is, c.if-indicator.true)

pub returns-then-indicator-2 : goal.returns-then-indicator-2
unfolding indicated
returns-then-indicator-2 c = rw (c.in-NotRollover.is, c.if-indicator-2.true)

pub returns-then-indicator-3 : goal.returns-then-indicator-3
unfolding indicated
returns-then-indicator-3 c = rw (c.in-Indeterminate.is, c.if-indicator-3.true)

pub returns-then-indicator-4 : goal.returns-then-indicator-4
unfolding indicated
returns-then-indicator-4 c = rw (c.in-Indeterminate.is, c.if-indicator-4.true)

pub returns-else-indicator : goal.returns-else-indicator
unfolding indicated
returns-else-indicator c = rw (c.in-Rollover.is, ne_eqb _ _ c.if-indicator.false)

pub returns-else-indicator-2 : goal.returns-else-indicator-2
unfolding indicated
returns-else-indicator-2 c = rw (c.in-NotRollover.is, ne_eqb _ _ c.if-indicator-2.false)

pub returns-else-indicator-4 : goal.returns-else-indicator-4
unfolding indicated
returns-else-indicator-4 c = rw (c.in-Indeterminate.is, ne_eqb _ _ c.if-indicator-3.false, ne_eqb _ _ c.if-indicator-4.false)
