-- A refusal leaves the area, and an accepted withdrawal writes what was decided.
use Rattle.terms.proofs.Refusals.{passed_on}
use Rattle.meter.proofs.withdraw.withdraw_in.Goals as goal

pub returns-in_err-w : goal.returns-in_err-w
returns-in_err-w c = rw (passed_on _ c.from_residual.ensures.1) c.in_err-w.ensures.decision_is

pub returns : goal.returns
returns c = rw c.mark_withdrawn.ensures c.in_ok-w.ensures.decision_is
