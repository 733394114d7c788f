-- By the number of the area's checks: a refusal leaves the area, and an accepted enrolment writes the head.
use Rattle.terms.proofs.Refusals.{refuses, passed_on}
use Rattle.calls.specs.Calls.{enrol_in}
use Rattle.meter.proofs.enrol.enrol_in.Goals as goal

pub returns-in_err-check_enrolment : goal.returns-in_err-check_enrolment
unfolding enrol_in
returns-in_err-check_enrolment c = rw (passed_on _ c.from_residual.ensures.1, ← c.in_err-check_enrolment.ensures, refuses)

pub returns : goal.returns
unfolding enrol_in
returns c = rw (← c.in_ok-check_enrolment.ensures, c.put_head.ensures)
