-- One step back finds the standing entry before the last, or that there is none, and another the one before that.
use native.Mathlib.Omega.{arith}
use Rattle.terms.specs.Entry.{slot_at, recent_of}
use Rattle.reads.proofs.Back.{none_left, one_left}
use Rattle.reads.proofs.recent.recent_over.Goals as goal

pub returns-then-b-eq0 : goal.returns-then-b-eq0
unfolding recent_of slot_at
returns-then-b-eq0 c = rw (none_left _ _ _ c.back-b.ensures c.if-b-eq0.true, c.entry_at.ensures)

pub entry_at-requires-2 : goal.entry_at-requires-2
entry_at-requires-2 c = omega (arith, c.back-b.ensures.fewer)

pub last_over-requires : goal.last_over-requires
last_over-requires c = omega (arith, c.back-b.ensures.fewer)

pub returns : goal.returns
unfolding recent_of slot_at
returns c =
    rw (
      one_left _ _ _ c.back-b.ensures c.if-b-eq0.false,
      c.entry_at.ensures,
      c.entry_at-2.ensures,
      c.last_over.ensures,
    )
