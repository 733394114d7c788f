-- The place is checked as the submission's step has it, and the area that is lent is asked.
use mathlib.Core.Path.{ap}
use native.Mathlib.Omega.{arith}
use Rattle.terms.proofs.Refusals.{passed_on}
use Rattle.calls.specs.declared.call.Call.TheVariants.{Submit}
use Rattle.calls.specs.Calls.{Done, act, place_of, refusal_of}
use Rattle.place.proofs.Placed.{has_area, refuses_call, answers}
use Rattle.submit.proofs.trial.trial.Goals as goal

pub returns-in_err-start : goal.returns-in_err-start
unfolding place_of refusal_of
returns-in_err-start c =
    rw (passed_on _ c.from_residual.ensures.1) (ap (λ (d : Done). d.reply) (refuses_call (Submit c.args.place c.args.s) _ c.in_err-start.ensures))

pub slice_bounds-trial_in-end : goal.slice_bounds-trial_in-end
slice_bounds-trial_in-end c = omega (arith, has_area _ _ c.in_ok-start.ensures)

pub returns : goal.returns
unfolding place_of act
returns c = answers (Submit c.args.place c.args.s) _ c.in_ok-start.ensures c.trial_in.ensures
