-- The code is the definition, test for test.
use mathlib.Core.Path.{refl}
use Rattle.journal.specs.Sound.{is_plate}
use Rattle.journal.proofs.plate.is_plate.Goals as goal

pub returns : goal.returns
unfolding is_plate
returns c = refl
