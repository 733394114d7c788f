-- One step back finds the last standing entry, or that there is none.
use native.Mathlib.Omega.{arith}
use Rattle.terms.specs.Entry.{slot_at}
use Rattle.reads.proofs.Back.{none_left, one_left}
use Rattle.reads.proofs.recent.last_over.Goals as goal

pub returns-then-b-eq0 : goal.returns-then-b-eq0
unfolding slot_at
returns-then-b-eq0 c = rw (none_left _ _ _ c.back-b.ensures c.if-b-eq0.true)

pub entry_at-requires : goal.entry_at-requires
entry_at-requires c = omega (arith, c.back-b.ensures.fewer)

pub returns : goal.returns
unfolding slot_at
returns c = rw (one_left _ _ _ c.back-b.ensures c.if-b-eq0.false, c.entry_at.ensures)
