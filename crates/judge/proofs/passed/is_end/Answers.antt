-- No more entries may follow, or a zero kind byte does.
use native.Mathlib.Omega.{arith}
use borrow.Author.Tests.{eqb-true}
use Rattle.journal.proofs.Entries.{count_ends, count_all}
use Rattle.judge.proofs.passed.is_end.Goals as goal

pub returns-then-at-body : goal.returns-then-at-body
returns-then-at-body c = λ h. count_all _ _ _ (omega (arith, c.if-at-body.true))

pub returns-else-at-body : goal.returns-else-at-body
returns-else-at-body c = λ h. count_ends _ _ _ (omega arith) (rw c.kind_at.ensures at (eqb-true _ _ h))
