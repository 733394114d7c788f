-- The place is checked as the step has it, and what is lent is the area.
use native.Mathlib.Omega.{arith}
use Rattle.terms.proofs.Refusals.{passed_on}
use Rattle.calls.specs.declared.call.Call.TheVariants.{Withdraw}
use Rattle.calls.specs.Calls.{act, place_of, refusal_of}
use Rattle.place.proofs.Placed.{has_area, refuses_call, writes}
use Rattle.meter.proofs.withdraw.withdraw.Goals as goal

pub slice_bounds-withdraw_in-end : goal.slice_bounds-withdraw_in-end
slice_bounds-withdraw_in-end c = omega (arith, has_area _ _ c.in_ok-start.ensures)

pub returns-in_err-start : goal.returns-in_err-start
unfolding place_of refusal_of
returns-in_err-start c = rw (passed_on _ c.from_residual.ensures.1) (refuses_call (Withdraw c.args.place c.args.day c.args.value) _ c.in_err-start.ensures)

pub returns : goal.returns
unfolding place_of act
returns c = writes (Withdraw c.args.place c.args.day c.args.value) _ c.in_ok-start.ensures c.withdraw_in.ensures
