-- The code is the definition, test for test.
use mathlib.Core.Path.{refl}
use Rattle.terms.specs.Entry.{is_standing}
use Rattle.journal.proofs.order.is_standing.Goals as goal

pub returns : goal.returns
unfolding is_standing
returns c = refl
