-- A trial answers as the submission would and writes nothing, on every register.
use mathlib.Core.Path.{◌≡◌, refl, sym, ap}
use mathlib.Core.Bool.{true}
use mathlib.Core.List.{List}
use Prim.Native.Nat.{ℕ}
use Rattle.terms.specs.declared.submission.Submission.{Submission}
use Rattle.calls.specs.declared.call.Call.{Call}
use Rattle.calls.specs.declared.call.Call.TheVariants.{Enrol, Submit, Withdraw, Report as ReportCall, Fold, Trial}
use Rattle.calls.specs.declared.call.Reply.{Reply}
use Rattle.calls.specs.Calls.{Done, done, step}
use Rattle.calls.specs.Play.{is_trial}
use Rattle.calls.specs.Trials.{TrialsForetell}
use Rattle.calls.proofs.Bools.{apart}
use Rattle.calls.proofs.Foretold.{foretells}

-- the submission's answer, and the register as it is, are what the trial comes to
pub is_trial_lem : (place : ℕ) (s : Submission) (register : List ℕ) {reply : Reply} → reply ≡ (step (Submit place s) register).reply → done reply register ≡ step (Trial place s) register
unfolding TrialsForetell
is_trial_lem place s register e = rw e (sym (foretells place s register))

pub untouched : (call : Call) → is_trial call ≡ true → (register : List ℕ) → (step call register).register ≡ register
unfolding is_trial TrialsForetell
untouched (Enrol place profile dials capacity) h register = absurd (apart h refl)
untouched (Submit place s) h register = absurd (apart h refl)
untouched (Withdraw place day value) h register = absurd (apart h refl)
untouched (ReportCall place) h register = absurd (apart h refl)
untouched (Fold place) h register = absurd (apart h refl)
untouched (Trial place s) h register = ap (λ (d : Done). d.register) (foretells place s register)
