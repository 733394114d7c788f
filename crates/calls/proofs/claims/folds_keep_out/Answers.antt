-- The claim is the law about a fold of the area that the submission was sent to.
use Rattle.calls.proofs.StaysOut.{folds_keep_out}
use Rattle.calls.proofs.claims.folds_keep_out.Goals as goal

pub returns : goal.returns
returns c = folds_keep_out
