-- Each test that fails decides the definition, and what is left is its last three tests.
use borrow.Author.Tests.{eq-eqb, ne_eqb, le-ltb, lt-ltb}
use Rattle.journal.specs.Sound.{holds, is_in_range}
use Rattle.journal.proofs.order.is_in_range.Goals as goal

pub returns-then-e-eq0 : goal.returns-then-e-eq0
unfolding is_in_range holds
returns-then-e-eq0 c = λ l. rw (eq-eqb _ _ c.if-e-eq0.true)

pub returns-then-limit-e : goal.returns-then-limit-e
unfolding is_in_range holds
returns-then-limit-e c = λ l. rw (ne_eqb _ _ c.if-e-eq0.false, ← l, le-ltb _ _ c.if-limit-e.true)

pub returns-then-not-takes : goal.returns-then-not-takes
unfolding is_in_range holds
returns-then-not-takes c =
    λ l.
    rw (
      ne_eqb _ _ c.if-e-eq0.false,
      ← l,
      lt-ltb _ _ c.if-limit-e.false,
      ← c.takes.ensures,
      c.if-not-takes.true,
    )

pub returns : goal.returns
unfolding is_in_range holds
returns c =
    λ l.
    rw (
      ne_eqb _ _ c.if-e-eq0.false,
      ← l,
      lt-ltb _ _ c.if-limit-e.false,
      ← c.takes.ensures,
      c.if-not-takes.false,
      c.is_opening.ensures,
    )
