-- The claim is the law about registers.
use Rattle.calls.proofs.KeptAll.{keeps_all}
use Rattle.calls.proofs.claims.calls_keep_areas.Goals as goal

pub returns : goal.returns
returns c = keeps_all
