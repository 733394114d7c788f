-- The code is the definition, test for test.
use mathlib.Core.Path.{refl}
use Rattle.terms.specs.Letter.{is_final}
use Rattle.journal.proofs.order.is_final.Goals as goal

pub returns : goal.returns
unfolding is_final
returns c = refl
