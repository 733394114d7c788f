-- The number of the next tally decides.
use Rattle.tally.proofs.Checked.{stopped}
use Rattle.tally.proofs.change.made_to.Goals as goal

pub returns-else-is_ok : goal.returns-else-is_ok
returns-else-is_ok c = rw (stopped _ c.check_tally.ensures c.if-is_ok.ensures.negation)
