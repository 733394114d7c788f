-- Whether a read stands decides which tests are made, as in the definition.
use Rattle.journal.specs.Sound.{opens}
use Rattle.journal.specs.Inner.Loops.{stands_by}
use Rattle.journal.proofs.order.may_stand.Goals as goal

pub returns-then-stands : goal.returns-then-stands
unfolding stands_by
returns-then-stands c = rw (c.if-stands.true, c.is_opening.ensures)

pub returns : goal.returns
unfolding stands_by opens
returns c = rw (c.if-stands.false, c.is_opening-2.ensures)
