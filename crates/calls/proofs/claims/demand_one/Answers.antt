-- The claim is the law about refusals and about the areas of a register.
use Rattle.calls.proofs.Refusals.{demand_one}
use Rattle.calls.proofs.claims.demand_one.Goals as goal

pub returns : goal.returns
returns c = demand_one
