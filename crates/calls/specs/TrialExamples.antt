-- 02, 7, Try a read first: examples that fix what a trial is. The meter is at place 7, as in the other examples.
use Rattle.std.specs.Prelude.{◌≡◌, true, false, List, [], ◌∷◌, ℕ, ℤ, pos, replicate}
use Rattle.terms.specs.declared.profile.Profile.TheVariants.{Ordinary}
use Rattle.terms.specs.Answer.{answer, refusal}
use Rattle.terms.specs.Number.{accepted, no_meter, low, high}
use Rattle.register.specs.Area.{area_bytes}
use Rattle.calls.specs.declared.call.Call.{Call}
use Rattle.calls.specs.declared.call.Call.TheVariants.{Enrol, Submit, Withdraw, Report as ReportCall, Fold, Trial}
use Rattle.calls.specs.declared.call.Reply.TheVariants.{Answered}
use Rattle.calls.specs.Calls.{refused, trial_in, place_of, refusal_of}
use Rattle.calls.specs.Play.{Exchange, exchange, is_trial, names, is_picked, picked, calls_of}
use Rattle.calls.specs.Ledger.{named, is_accepted, ledger_of}
use Rattle.calls.specs.Trials.{less_trials, less_tried}
use Rattle.calls.specs.Examples.{meter, read, enrolled, submitted}

abbrev pub trial : Call
trial = Trial meter (read 1540 100)

-- the trial, as it was answered
abbrev pub tried : ℕ → ℕ → ℤ → Exchange
tried number flag advance = exchange trial (Answered (answer number flag advance))

-- three calls, and the same with trials before them, two in a row between them, and one after them
unfoldable pub untried : List Exchange
untried = enrolled ∷ submitted 1000 9200 0 (pos 0) ∷ submitted 1180 9400 0 (pos 200) ∷ []

unfoldable pub mixed : List Exchange
mixed =
    tried no_meter 0 (pos 0)
    ∷ enrolled
    ∷ submitted 1000 9200 0 (pos 0)
    ∷ tried low 0 (pos 0)
    ∷ tried accepted 1 (pos 900)
    ∷ submitted 1180 9400 0 (pos 200)
    ∷ tried accepted 1 (pos 700)
    ∷ []

-- an area where nothing is enrolled
abbrev pub zeros : List ℕ
zeros = replicate area_bytes 0

-- THE CLAIM: one row for each example
pub record TrialExamplesHold : Type 0 where
  -- a trial is one, and none of the five other calls is
  pub trial_is : is_trial trial ≡ true
  pub enrolment_not : is_trial (Enrol meter Ordinary 4 5000) ≡ false
  pub submission_not : is_trial (Submit meter (read 1540 100)) ≡ false
  pub withdrawal_not : is_trial (Withdraw meter 1540 100) ≡ false
  pub report_not : is_trial (ReportCall meter) ≡ false
  pub fold_not : is_trial (Fold meter) ≡ false
  -- it has "the same arguments as a submission", its place among them; "a call names it by its place", but for a trial
  pub trial_placed : place_of trial ≡ meter
  pub trial_unnamed : names meter trial ≡ false
  pub submission_named : names meter (Submit meter (read 1540 100)) ≡ true
  -- run B plays "only the calls that name this meter and that A answered 0, 19 or 20": no trial, whatever it was answered
  pub accepted_not_picked : is_picked meter (tried accepted 1 (pos 700)) ≡ false
  pub low_not_picked : is_picked meter (tried low 0 (pos 0)) ≡ false
  pub high_not_picked : is_picked meter (tried high 0 (pos 0)) ≡ false
  pub picked_without : picked meter mixed ≡ untried
  -- "alters neither run of the sum": a trial answered 0 is no accepted call of the meter, and its read, flag and advance are not entered
  pub answered_not_accepted : is_accepted meter (tried accepted 1 (pos 700)) ≡ false
  pub ledger_without : ledger_of meter mixed ≡ record { standing = named 1180 9400 ∷ named 1000 9200 ∷ []; advances = pos 200; flags = pos 0; dials = 4; withdrawn = []; folded = 0 }
  -- a list less the trials in it: every other call, in its order
  pub less_trials_row : less_trials (calls_of mixed) ≡ calls_of untried
  pub less_tried_row : less_tried mixed ≡ untried
  -- "gives the answer that the submission would give", and "The register given is not written": 3 for an area of zeros
  pub tried_at_none : trial_in (read 1540 100) zeros ≡ refused no_meter zeros
  -- that answer has a submission's form, and not a report's
  pub refusal_form : refusal_of trial no_meter ≡ Answered (refusal no_meter)
