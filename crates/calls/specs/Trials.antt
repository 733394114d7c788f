-- 02, 7, Try a read first: what a trial answers, and that it alters nothing, wherever it stands in a list of calls.
use Rattle.std.specs.Prelude.{◌≡◌, cond, List, [], ◌∷◌, ℕ}
use Rattle.terms.specs.declared.submission.Submission.{Submission}
use Rattle.calls.specs.declared.call.Call.{Call}
use Rattle.calls.specs.declared.call.Call.TheVariants.{Submit, Trial}
use Rattle.calls.specs.Calls.{done, step}
use Rattle.calls.specs.Play.{Exchange, exchanges, register_after, is_trial}
use Rattle.calls.specs.Ledger.{ledger_of}
use Rattle.calls.specs.DemandThree.{run_a, calls_b}

-- THE CLAIM for one trial, on EVERY register: it "gives the answer that the submission would give on a copy of the register", 19 and 20 too, and
-- leaves the register as it was
unfoldable pub TrialsForetell : Type 0
TrialsForetell =
    (place : ℕ) (s : Submission) (register : List ℕ)
    → step (Trial place s) register ≡ done (step (Submit place s) register).reply register

-- a list of calls less the trials in it, and the same of calls with their answers
unfoldable pub less_trials : List Call → List Call
less_trials [] = []
less_trials (call ∷ calls) = cond (is_trial call) (less_trials calls) (call ∷ less_trials calls)

unfoldable pub less_tried : List Exchange → List Exchange
less_tried [] = []
less_tried (x ∷ xs) = cond (is_trial x.call) (less_tried xs) (x ∷ less_tried xs)

-- what holds of a list in which trials stand anywhere
pub record AlterNothing (calls : List Call) : Type 0 where
  -- no byte is another, on EVERY register, ..
  pub bytes : (register : List ℕ) → register_after calls register ≡ register_after (less_trials calls) register
  -- .. and no other call is answered otherwise
  pub answers : (register : List ℕ) → less_tried (exchanges calls register) ≡ exchanges (less_trials calls) register
  -- "a trial between two calls alters neither run of the sum": run A comes to the same at every meter, and run B plays the same calls
  pub in_a : (meter : ℕ) → ledger_of meter (run_a calls) ≡ ledger_of meter (run_a (less_trials calls))
  pub in_b : (meter : ℕ) → calls_b meter calls ≡ calls_b meter (less_trials calls)

-- THE CLAIM for every list
unfoldable pub TrialsAlterNothing : Type 0
TrialsAlterNothing = (calls : List Call) → AlterNothing calls
