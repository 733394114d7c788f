-- The code is the definition, test for test.
use Rattle.rules.specs.Volume.{has_volume_check}
use Rattle.rules.proofs.volume.has_volume_check.Goals as goal

pub returns : goal.returns
unfolding has_volume_check
returns c = rw c.is_unchecked.ensures
