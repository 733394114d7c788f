-- A list of calls does the same without the trials in it: each leaves the register as it was, and is no call on a meter.
use mathlib.Core.Path.{◌≡◌, refl, ap, ◌∙◌}
use mathlib.Core.List.{List, [], ◌∷◌}
use Prim.Native.Nat.{ℕ}
use Rattle.calls.specs.declared.call.Call.{Call}
use Rattle.calls.specs.Calls.{step}
use Rattle.calls.specs.Play.{Exchange, exchange, exchanges, register_after, zero_register, is_trial, picked, calls_of}
use Rattle.calls.specs.Ledger.{empty_ledger, ledger_of}
use Rattle.calls.specs.DemandThree.{run_a}
use Rattle.calls.specs.Trials.{less_trials, less_tried, TrialsAlterNothing}
use Rattle.calls.proofs.Bools.{by_test}
use Rattle.calls.proofs.Tried.{untouched}
use Rattle.calls.proofs.TriedEntries.{same_ledger}
use Rattle.calls.proofs.TriedPicks.{same_picked}

-- ---- bytes and answers
pub same_bytes : (calls : List Call) (register : List ℕ) → register_after calls register ≡ register_after (less_trials calls) register
unfolding register_after less_trials
same_bytes [] register = refl
same_bytes (call ∷ calls) register =
    by_test (is_trial call)
    (λ h. rw (h, untouched call h register) (same_bytes calls register))
    (λ h. rw h (same_bytes calls (step call register).register))

pub same_answers : (calls : List Call) (register : List ℕ) → less_tried (exchanges calls register) ≡ exchanges (less_trials calls) register
unfolding exchanges less_trials less_tried
same_answers [] register = refl
same_answers (call ∷ calls) register =
    by_test (is_trial call)
    (λ h. rw (h, untouched call h register) (same_answers calls register))
    (λ h.
    let x = exchange call (step call register).reply in
    rw h (ap (λ (xs : List Exchange). x ∷ xs) (same_answers calls (step call register).register)))

-- ---- a meter's part of a run
module _ (meter : ℕ) where
  module _ (calls : List Call) where
    same_runs : less_tried (run_a calls) ≡ run_a (less_trials calls)
    same_runs = same_answers calls zero_register

    pub same_sum : ledger_of meter (run_a calls) ≡ ledger_of meter (run_a (less_trials calls))
    unfolding ledger_of
    same_sum = same_ledger meter (run_a calls) empty_ledger ∙ ap (ledger_of meter) same_runs

    pub same_calls : calls_of (picked meter (run_a calls)) ≡ calls_of (picked meter (run_a (less_trials calls)))
    same_calls = ap calls_of (same_picked meter (run_a calls) ∙ ap (picked meter) same_runs)

pub trials_alter_nothing : TrialsAlterNothing
unfolding TrialsAlterNothing
trials_alter_nothing calls =
    record {
      bytes = same_bytes calls;
      answers = same_answers calls;
      in_a = λ meter. same_sum meter calls;
      in_b = λ meter. same_calls meter calls;
    }
