-- The place is checked as the step has it, and what is lent is the area.
use native.Mathlib.Omega.{arith}
use Rattle.terms.proofs.Refusals.{passed_on}
use Rattle.calls.specs.declared.call.Call.TheVariants.{Fold}
use Rattle.calls.specs.Calls.{act, place_of, refusal_of}
use Rattle.place.proofs.Placed.{has_area, refuses_call, writes}
use Rattle.fold.proofs.fold.fold.Goals as goal

pub slice_bounds-fold_in-end : goal.slice_bounds-fold_in-end
slice_bounds-fold_in-end c = omega (arith, has_area _ _ c.in_ok-start.ensures)

pub returns-in_err-start : goal.returns-in_err-start
unfolding place_of refusal_of
returns-in_err-start c = rw (passed_on _ c.from_residual.ensures.1) (refuses_call (Fold c.args.place) c.args.register.now c.in_err-start.ensures)

pub returns : goal.returns
unfolding place_of act
returns c = writes (Fold c.args.place) c.args.register.now c.in_ok-start.ensures c.fold_in.ensures
