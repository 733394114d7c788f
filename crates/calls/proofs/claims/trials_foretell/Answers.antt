-- The claim is the law about one trial.
use Rattle.calls.proofs.Foretold.{foretells}
use Rattle.calls.proofs.claims.trials_foretell.Goals as goal

pub returns : goal.returns
returns c = foretells
