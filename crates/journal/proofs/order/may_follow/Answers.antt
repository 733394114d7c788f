-- Each test is the definition's.
use mathlib.Core.Bool.{and-false}
use Rattle.journal.specs.Inner.Loops.{follows_by}
use Rattle.journal.proofs.order.may_follow.Goals as goal

pub returns-then-held : goal.returns-then-held
unfolding follows_by
returns-then-held c = λ l. rw (c.if-held.true, and-false)

pub returns-then-not-is_read : goal.returns-then-not-is_read
unfolding follows_by
returns-then-not-is_read c = λ l. rw (← c.is_read.ensures l, c.if-not-is_read.true)

pub returns-then-is_standing : goal.returns-then-is_standing
unfolding follows_by
returns-then-is_standing c =
    λ l.
    rw (
      ← c.is_read.ensures l,
      c.if-not-is_read.false,
      c.if-held.false,
      ← c.is_standing.ensures,
      c.if-is_standing.true,
      c.is_final.ensures,
      c.may_stand.ensures,
    )

pub returns : goal.returns
unfolding follows_by
returns c =
    λ l.
    rw (
      ← c.is_read.ensures l,
      c.if-not-is_read.false,
      c.if-held.false,
      ← c.is_standing.ensures,
      c.if-is_standing.false,
      c.is_final.ensures,
      c.is_held.ensures,
      c.is_holdable.ensures,
    )
