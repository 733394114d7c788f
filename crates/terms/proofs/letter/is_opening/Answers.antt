-- The code is the definition, test for test.
use mathlib.Core.Path.{refl}
use Rattle.terms.specs.Letter.{is_opening}
use Rattle.terms.proofs.letter.is_opening.Goals as goal

pub returns : goal.returns
unfolding is_opening
returns c = refl
