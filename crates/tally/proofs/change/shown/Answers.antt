-- A value below the limit is shown.
use borrow.Author.Tests.{lt-ltb, le-ltb}
use Rattle.tally.specs.Inner.Moved.{shown_by}
use Rattle.tally.proofs.change.shown.Goals as goal

pub returns-then-value-from : goal.returns-then-value-from
unfolding shown_by
returns-then-value-from c = rw (← c.from.ensures, lt-ltb _ _ c.if-value-from.true)

pub returns : goal.returns
unfolding shown_by
returns c = rw (← c.from.ensures, le-ltb _ _ c.if-value-from.false)
