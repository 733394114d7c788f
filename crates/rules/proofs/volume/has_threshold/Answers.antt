-- The code is the definition, test for test.
use Rattle.rules.specs.Volume.{has_threshold}
use Rattle.rules.proofs.volume.has_threshold.Goals as goal

pub returns : goal.returns
unfolding has_threshold
returns c = rw c.has_volume_check.ensures
