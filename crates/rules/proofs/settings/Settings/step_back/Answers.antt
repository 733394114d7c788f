-- The test for three dials is the definition's.
use borrow.Author.Tests.{eq-eqb, ne_eqb}
use Rattle.rules.specs.Settings.{step_back}
use Rattle.rules.proofs.settings.Settings.step_back.Goals as goal

pub returns-then-n-eq3 : goal.returns-then-n-eq3
unfolding step_back
returns-then-n-eq3 c = rw (eq-eqb _ _ c.if-n-eq3.true)

pub returns : goal.returns
unfolding step_back
returns c = rw (ne_eqb _ _ c.if-n-eq3.false)
