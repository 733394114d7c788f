-- The kind is one of three, and the body is as it should be.
use Rattle.journal.specs.Sound.{is_read}
use Rattle.journal.proofs.order.is_read.Goals as goal

pub returns-then-not-is_standing-is_withdrawn : goal.returns-then-not-is_standing-is_withdrawn
unfolding is_read
returns-then-not-is_standing-is_withdrawn c =
    λ l.
    rw (
      ← c.is_standing.ensures,
      ← c.is_withdrawn.ensures,
      ← c.is_held.ensures,
      c.if-not-is_standing-is_withdrawn.true,
    )

pub returns : goal.returns
unfolding is_read
returns c =
    λ l.
    rw (
      ← c.is_standing.ensures,
      ← c.is_withdrawn.ensures,
      ← c.is_held.ensures,
      c.if-not-is_standing-is_withdrawn.false,
      c.is_in_range.ensures l,
    )
