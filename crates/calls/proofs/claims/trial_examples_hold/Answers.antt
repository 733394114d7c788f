-- Every example computes to what it says.
use mathlib.Core.Path.{refl}
use Rattle.register.specs.Area.{all_zero}
use Rattle.journal.specs.Numbers.{area_rules}
use Rattle.calls.specs.Checks.{submit_checks}
use Rattle.calls.specs.Calls.{submit_in, trial_in, place_of, refusal_of}
use Rattle.calls.specs.Play.{number_of, is_trial, names, may_change, is_picked, picked, calls_of}
use Rattle.calls.specs.Ledger.{empty_ledger, flag_of, entered, is_accepted, ledger_after, ledger_of}
use Rattle.calls.specs.Trials.{less_trials, less_tried}
use Rattle.calls.specs.TrialExamples.{untried, mixed}
use Rattle.calls.proofs.claims.trial_examples_hold.Goals as goal

pub returns : goal.returns
unfolding all_zero area_rules submit_checks submit_in trial_in place_of refusal_of number_of is_trial names may_change is_picked picked calls_of empty_ledger flag_of entered is_accepted ledger_after ledger_of less_trials less_tried untried mixed
returns c =
    record {
      trial_is = refl;
      enrolment_not = refl;
      submission_not = refl;
      withdrawal_not = refl;
      report_not = refl;
      fold_not = refl;
      trial_placed = refl;
      trial_unnamed = refl;
      submission_named = refl;
      accepted_not_picked = refl;
      low_not_picked = refl;
      high_not_picked = refl;
      picked_without = refl;
      answered_not_accepted = refl;
      ledger_without = refl;
      less_trials_row = refl;
      less_tried_row = refl;
      tried_at_none = refl;
      refusal_form = refl;
    }
