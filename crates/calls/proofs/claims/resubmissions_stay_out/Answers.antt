-- The claim is the law about every call after the one that was answered 8.
use Rattle.calls.proofs.StaysOut.{resubmissions_stay_out}
use Rattle.calls.proofs.claims.resubmissions_stay_out.Goals as goal

pub returns : goal.returns
returns c = resubmissions_stay_out
