-- The code is the definition, test for test.
use mathlib.Core.Path.{refl}
use Rattle.terms.specs.Entry.{is_withdrawn}
use Rattle.journal.proofs.order.is_withdrawn.Goals as goal

pub returns : goal.returns
unfolding is_withdrawn
returns c = refl
