-- The code is the definition, test for test.
use mathlib.Core.Path.{refl}
use Rattle.terms.specs.Letter.{is_unchecked}
use Rattle.terms.proofs.letter.is_unchecked.Goals as goal

pub returns : goal.returns
unfolding is_unchecked
returns c = refl
