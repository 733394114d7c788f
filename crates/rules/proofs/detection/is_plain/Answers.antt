-- The code is the definition, test for test.
use mathlib.Core.Path.{refl}
use Rattle.rules.specs.Detection.{is_plain}
use Rattle.rules.proofs.detection.is_plain.Goals as goal

pub returns : goal.returns
unfolding is_plain
returns c = refl
