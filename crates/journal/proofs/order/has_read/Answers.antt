-- The code is the definition, test for test.
use mathlib.Core.Path.{refl}
use Rattle.journal.specs.Sound.{has_read}
use Rattle.journal.proofs.order.has_read.Goals as goal

pub returns : goal.returns
unfolding has_read
returns c = refl
