-- The code asks what the definition asks, with the limit at hand.
use Rattle.tally.specs.Tally.{has_other_dials, is_no_value, is_broken}
use Rattle.tally.proofs.tally.is_broken.Goals as goal

pub returns : goal.returns
unfolding is_broken has_other_dials is_no_value
returns c = rw c.limit_of-limit.ensures
