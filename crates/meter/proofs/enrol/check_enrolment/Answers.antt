-- The two tests in the definition's order.
use Rattle.terms.specs.Refusal.{number_of}
use Rattle.calls.specs.Checks.{enrol_checks}
use Rattle.meter.proofs.enrol.check_enrolment.Goals as goal

pub returns-then-not-is_zero : goal.returns-then-not-is_zero
unfolding enrol_checks number_of
returns-then-not-is_zero c = rw (← c.is_zero.ensures, c.if-not-is_zero.true)

pub returns-then-not-is_plate : goal.returns-then-not-is_plate
unfolding enrol_checks number_of
returns-then-not-is_plate c = rw (← c.is_zero.ensures, c.if-not-is_zero.false, ← c.is_plate.ensures, c.if-not-is_plate.true)

pub returns : goal.returns
unfolding enrol_checks
returns c = rw (← c.is_zero.ensures, c.if-not-is_zero.false, ← c.is_plate.ensures, c.if-not-is_plate.false)
