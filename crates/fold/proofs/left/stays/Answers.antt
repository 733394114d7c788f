-- Each test is the definition's.
use Rattle.calls.specs.Fold.{stays}
use Rattle.fold.proofs.left.stays.Goals as goal

pub returns : goal.returns
unfolding stays
returns c = cc
