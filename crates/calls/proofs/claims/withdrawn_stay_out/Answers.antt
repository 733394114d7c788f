-- The claim is the law about a withdrawn read that is sent again.
use Rattle.calls.proofs.KeptOut.{withdrawn_stay_out}
use Rattle.calls.proofs.claims.withdrawn_stay_out.Goals as goal

pub returns : goal.returns
returns c = withdrawn_stay_out
