-- The claim is the theorem about lists at the effects that the calls have.
use Rattle.calls.proofs.Chains.{demand_three}
use Rattle.calls.proofs.Known.{local, effects}
use Rattle.calls.proofs.claims.demand_three.Goals as goal

pub returns : goal.returns
returns c = demand_three local effects
