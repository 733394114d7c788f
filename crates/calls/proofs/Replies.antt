-- A reply has the form of its call, on every register: a report is reported, and every other call is answered.
use mathlib.Core.Path.{◌≡◌, refl}
use mathlib.Core.Bool.{Bool, true, false}
use mathlib.Core.List.{List}
use Prim.Native.Nat.{ℕ}
use lib.Dec.{eqb}
use Rattle.terms.specs.declared.submission.Submission.{Submission}
use Rattle.terms.specs.Number.{accepted}
use Rattle.terms.specs.Rule.{first_broken}
use Rattle.register.specs.Area.{area_of}
use Rattle.calls.specs.declared.call.Call.{Call}
use Rattle.calls.specs.declared.call.Call.TheVariants.{Enrol, Submit, Withdraw, Report as ReportCall, Fold, Trial}
use Rattle.calls.specs.declared.call.Reply.{Reply}
use Rattle.calls.specs.declared.call.Reply.TheVariants.{Answered, Reported}
use Rattle.calls.specs.Checks.{enrol_checks, submit_checks, withdraw_checks, report_checks, fold_checks}
use Rattle.calls.specs.Calls.{is_volume_query, plate_of, enrol_in, submit_in, withdraw_in, report_in, fold_in, trial_in, act, place_of, refusal_of, place_number, on_area, step}
use Rattle.calls.proofs.Bools.{by_test}

unfoldable pub is_report : Call → Bool
is_report (Enrol place profile dials capacity) = false
is_report (Submit place s) = false
is_report (Withdraw place day value) = false
is_report (ReportCall place) = true
is_report (Fold place) = false
is_report (Trial place s) = false

unfoldable pub is_reported : Reply → Bool
is_reported (Answered a) = false
is_reported (Reported r) = true

refusal_form : (call : Call) (number : ℕ) → is_reported (refusal_of call number) ≡ is_report call
unfolding is_reported is_report refusal_of
refusal_form (Enrol place profile dials capacity) number = refl
refusal_form (Submit place s) number = refl
refusal_form (Withdraw place day value) number = refl
refusal_form (ReportCall place) number = refl
refusal_form (Fold place) number = refl
refusal_form (Trial place s) number = refl

submit_form : (s : Submission) (area : List ℕ) → is_reported (submit_in s area).reply ≡ false
unfolding is_reported submit_in
submit_form s area =
    by_test (eqb (first_broken (submit_checks s area)) accepted)
    (λ h. rw h)
    (λ h. rw h (by_test (is_volume_query (first_broken (submit_checks s area))) (λ q. rw q) (λ q. rw q)))

act_form : (call : Call) (area : List ℕ) → is_reported (act call area).reply ≡ is_report call
unfolding is_reported is_report act enrol_in withdraw_in report_in fold_in trial_in
act_form (Enrol place profile dials capacity) area = by_test (eqb (first_broken (enrol_checks (plate_of profile dials capacity) area)) accepted) (λ h. rw h) (λ h. rw h)
act_form (Submit place s) area = submit_form s area
act_form (Withdraw place day value) area = by_test (eqb (first_broken (withdraw_checks day value area)) accepted) (λ h. rw h) (λ h. rw h)
act_form (ReportCall place) area = by_test (eqb (first_broken (report_checks area)) accepted) (λ h. rw h) (λ h. rw h)
act_form (Fold place) area = by_test (eqb (first_broken (fold_checks area)) accepted) (λ h. rw h) (λ h. rw h)
act_form (Trial place s) area = submit_form s area

pub reply_form : (call : Call) (register : List ℕ) → is_reported (step call register).reply ≡ is_report call
unfolding step on_area
reply_form call register =
    by_test (eqb (place_number (place_of call) register) accepted)
    (λ h. rw h (act_form call (area_of (place_of call) register)))
    (λ h. rw h (refusal_form call (place_number (place_of call) register)))
