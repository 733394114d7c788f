use mathlib.Core.Path.{◌∙◌}
use native.Mathlib.Omega.{arith}
use borrow.Author.Tests.{eq-eqb, ne_eqb}
use Rattle.reads.specs.Search.{not_found, ends_at}
use Rattle.reads.proofs.search.end_at.Goals as goal

pub overflow_add-compared : goal.overflow_add-compared
overflow_add-compared c = omega arith

pub returns-then-e-day : goal.returns-then-e-day
unfolding ends_at
returns-then-e-day c = rw (eq-eqb _ _ c.if-e-day.true)

pub returns : goal.returns
unfolding not_found ends_at
returns c = c.not_found.ensures ∙ rw (ne_eqb _ _ c.if-e-day.false)
