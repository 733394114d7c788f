-- The claim is the law about lists.
use Rattle.calls.proofs.Trials.{trials_alter_nothing}
use Rattle.calls.proofs.claims.trials_alter_nothing.Goals as goal

pub returns : goal.returns
returns c = trials_alter_nothing
