-- By the decision: a refusal leaves the area, and else the folded journal is written.
use Rattle.terms.proofs.Refusals.{refuses, passed_on}
use Rattle.calls.specs.Calls.{fold_in}
use Rattle.fold.proofs.fold.fold_in.Goals as goal

pub returns-in_err-decide_fold : goal.returns-in_err-decide_fold
unfolding fold_in
returns-in_err-decide_fold c =
    let refused = c.in_err-decide_fold.ensures.number_is in
    rw (passed_on _ c.from_residual.ensures.1, ← refused, refuses)

pub returns : goal.returns
unfolding fold_in
returns c =
    let d = c.in_ok-decide_fold.ensures in
    rw (← d.number_is, c.copy_from_slice.ensures.after, c.folded-left.ensures, d.area_is)
