-- The code is the definition, test for test.
use mathlib.Core.Path.{refl}
use Rattle.terms.specs.Entry.{is_held}
use Rattle.journal.proofs.order.is_held.Goals as goal

pub returns : goal.returns
unfolding is_held
returns c = refl
