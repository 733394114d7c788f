-- With a carry, it is the test by the day of the oldest read that was kept.
use Rattle.journal.specs.Sound.{carries_right, holds, is_carry}
use Rattle.judge.proofs.carry.carries_right.Goals as goal

pub returns-then-not-body : goal.returns-then-not-body
unfolding carries_right holds is_carry
returns-then-not-body c = rw c.if-not-body.true

pub returns : goal.returns
unfolding carries_right holds is_carry
returns c = rw c.if-not-body.false (c.is_carry.ensures c.args.body.limit_is _ c.oldest_day-oldest.ensures)
