-- Every call leaves an area that is zero or sound, where it found one.
use mathlib.Core.Path.{◌≡◌, refl}
use mathlib.Core.Bool.{true, false}
use mathlib.Core.List.{List}
use Prim.Native.Nat.{ℕ}
use borrow.Author.Tests.{eqb-true}
use lib.Dec.{eqb}
use lib.ListN.{length}
use Rattle.terms.specs.declared.profile.Profile.{Profile}
use Rattle.terms.specs.declared.submission.Submission.{Submission}
use Rattle.terms.specs.Number.{accepted}
use Rattle.terms.specs.Rule.{first_broken}
use Rattle.register.specs.Area.{area_bytes, all_zero}
use Rattle.journal.specs.Sound.{is_sound}
use Rattle.calls.specs.declared.call.Call.{Call}
use Rattle.calls.specs.declared.call.Call.TheVariants.{Enrol, Submit, Withdraw, Report as ReportCall, Fold, Trial}
use Rattle.calls.specs.Checks.{enrol_checks, submit_checks, withdraw_checks, fold_checks}
use Rattle.calls.specs.Calls.{is_volume_query, plate_of, enrol_in, submit_in, withdraw_in, fold_in, act}
use Rattle.calls.specs.Kept.{is_good}
use Rattle.calls.proofs.Bools.{right_or, by_test}
use Rattle.calls.proofs.Acted.{enrolment, enrol_unchanged, submission, volume_query, submit_unchanged, withdrawal_in, withdraw_unchanged, report_unchanged, fold_in_lem, fold_unchanged, trial_unchanged}

pub record GoodArea (a : List ℕ) : Type 0 where
  pub size : length a ≡ area_bytes
  pub good : is_good a ≡ true

good_sound : {a : List ℕ} → length a ≡ area_bytes → is_sound a ≡ true → GoodArea a
unfolding is_good
good_sound {a} size sound = record { size = size; good = right_or (all_zero a) sound }

good_same : {a b : List ℕ} → b ≡ a → GoodArea a → GoodArea b
good_same e g = rw e g

-- a call by its number: accepted, or not
by_number : {X : Type 0} (number : ℕ) → (number ≡ accepted → X) → (eqb number accepted ≡ false → X) → X
by_number number f g = by_test (eqb number accepted) (λ h. f (eqb-true number accepted h)) g

module _ (a : List ℕ) (g : GoodArea a) where
  enrol_keeps : (profile : Profile) (dials capacity : ℕ) → GoodArea (enrol_in (plate_of profile dials capacity) a).area
  enrol_keeps profile dials capacity =
      let plate = plate_of profile dials capacity in
      by_number (first_broken (enrol_checks plate a))
      (λ h. let w = enrolment plate a g.size refl refl h in good_sound w.size w.sound)
      (λ h. good_same (enrol_unchanged plate a h) g)

  submit_keeps : (s : Submission) → GoodArea (submit_in s a).area
  submit_keeps s =
      by_number (first_broken (submit_checks s a))
      (λ h. let w = submission s a g.size h in good_sound w.size w.sound)
      (λ h.
      by_test (is_volume_query (first_broken (submit_checks s a)))
      (λ q. let w = volume_query s a g.size q in good_sound w.size w.sound)
      (λ q. good_same (submit_unchanged s a h q) g))

  withdraw_keeps : (day value : ℕ) → GoodArea (withdraw_in day value a).area
  withdraw_keeps day value =
      by_number (first_broken (withdraw_checks day value a))
      (λ h. let w = withdrawal_in day value a g.size h in good_sound w.size w.sound)
      (λ h. good_same (withdraw_unchanged day value a h) g)

  fold_keeps : GoodArea (fold_in a).area
  fold_keeps =
      by_number (first_broken (fold_checks a))
      (λ h. let w = fold_in_lem a g.size h in good_sound w.size w.sound)
      (λ h. good_same (fold_unchanged a h) g)

pub keeps : (call : Call) (a : List ℕ) → GoodArea a → GoodArea (act call a).area
unfolding act
keeps (Enrol place profile dials capacity) a g = enrol_keeps a g profile dials capacity
keeps (Submit place read) a g = submit_keeps a g read
keeps (Withdraw place day value) a g = withdraw_keeps a g day value
keeps (ReportCall place) a g = good_same (report_unchanged a) g
keeps (Fold place) a g = fold_keeps a g
keeps (Trial place read) a g = good_same (trial_unchanged read a) g
