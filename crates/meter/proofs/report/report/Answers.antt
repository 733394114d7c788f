-- The place is checked as the step has it, and the area that is lent is reported on; a report changes no byte.
use native.Mathlib.Omega.{arith}
use Rattle.terms.proofs.Refusals.{passed_on}
use Rattle.calls.specs.declared.call.Call.TheVariants.{Report as ReportCall}
use Rattle.calls.specs.Calls.{act, place_of, refusal_of}
use Rattle.place.proofs.Placed.{has_area, refuses_call, keeps}
use Rattle.meter.proofs.report.report.Goals as goal

pub slice_bounds-report_area-end : goal.slice_bounds-report_area-end
slice_bounds-report_area-end c = omega (arith, has_area _ _ c.in_ok-start.ensures)

pub returns-in_err-start : goal.returns-in_err-start
unfolding place_of refusal_of
returns-in_err-start c = rw (passed_on _ c.from_residual.ensures.1) (refuses_call (ReportCall c.args.place) _ c.in_err-start.ensures)

pub returns : goal.returns
unfolding place_of act
returns c = keeps (ReportCall c.args.place) _ c.in_ok-start.ensures c.report_area.ensures
