-- The code is the definition, test for test.
use mathlib.Core.Path.{refl}
use Rattle.terms.specs.Letter.{is_holdable}
use Rattle.terms.proofs.letter.is_holdable.Goals as goal

pub returns : goal.returns
unfolding is_holdable
returns c = refl
