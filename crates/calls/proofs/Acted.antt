-- What each call does to its area, by its number; a call that is refused leaves it.
use Rattle.std.specs.Prelude.{Some}
use mathlib.Core.Path.{◌≡◌, refl, ap}
use mathlib.Core.Bool.{true, false}
use mathlib.Core.List.{List, ◌∷◌}
use Prim.Native.Nat.{ℕ}
use borrow.Author.Tests.{eq-eqb, not-false}
use lib.Dec.{eqb}
use lib.ListN.{length}
use Rattle.terms.specs.declared.entry.Entry.{Entry}
use Rattle.terms.specs.declared.submission.Submission.{Submission}
use Rattle.terms.specs.Number.{accepted}
use Rattle.terms.specs.Rule.{first_broken}
use Rattle.terms.specs.Entry.{kind_standing, kind_held, is_standing, is_withdrawn, is_held}
use Rattle.register.specs.declared.head.Head.{Head}
use Rattle.register.specs.Area.{area_bytes}
use Rattle.register.specs.Head.{no_carry}
use Rattle.journal.specs.Journal.{journal_of, standing, withdrawn, held_of}
use Rattle.journal.specs.Numbers.{area_rules}
use Rattle.journal.specs.Sound.{is_sound}
use Rattle.calls.specs.Checks.{taken_flag, enrol_checks, submit_checks, withdraw_checks, report_checks, is_no_fold, fold_rules, fold_checks}
use Rattle.calls.specs.Calls.{Acted, refused, enrol_in, entry_for, written, is_volume_query, submit_in, withdraw_in, report_in, fold_in, trial_in}
use Rattle.calls.proofs.Bools.{by_test}
use Rattle.calls.proofs.Broken.{unbroken}
use Rattle.calls.proofs.Enrolled.{Enrolled, enrolled}
use Rattle.calls.proofs.Written.{Written, written_sound, standing_after, withdrawn_after, held_after}
use Rattle.calls.proofs.Accepted.{by_query, accepted_checked, query_passed, has_room_lem, accepted_sound, query_sound}
use Rattle.calls.proofs.Withdrawn.{Withdrawn, withdrawal}
use Rattle.calls.proofs.FoldedArea.{Folded, folded}

-- ---- enrolment
module _ (plate : Head) (a : List ℕ) where
  abbrev enrol_number : ℕ
  enrol_number = first_broken (enrol_checks plate a)

  pub enrolment : length a ≡ area_bytes → plate.carried ≡ false → plate.carry ≡ no_carry → enrol_number ≡ accepted → Enrolled plate (enrol_in plate a).area
  unfolding enrol_in enrol_checks
  enrolment size bare none h =
      let u = unbroken accepted (enrol_checks plate a) refl h in
      rw (eq-eqb _ _ h) (enrolled plate a size (not-false _ u.0) (not-false _ u.1.0) bare none)

  pub enrol_refused_lem : eqb enrol_number accepted ≡ false → enrol_in plate a ≡ refused enrol_number a
  unfolding enrol_in
  enrol_refused_lem h = rw h

  pub enrol_unchanged : eqb enrol_number accepted ≡ false → (enrol_in plate a).area ≡ a
  enrol_unchanged h = ap (λ (x : Acted). x.area) (enrol_refused_lem h)

-- ---- submission
pub query_refused : (number : ℕ) → is_volume_query number ≡ true → eqb number accepted ≡ false
query_refused number h = by_query (λ n. eqb n accepted ≡ false) number h refl refl

module _ (s : Submission) (a : List ℕ) where
  abbrev submit_number : ℕ
  submit_number = first_broken (submit_checks s a)

  abbrev taken : ℕ → Entry
  taken kind = entry_for kind s (taken_flag s (journal_of a))

  pub submission : length a ≡ area_bytes → submit_number ≡ accepted → Written (taken kind_standing) a (submit_in s a).area
  unfolding submit_in written entry_for
  submission size h =
      let c = accepted_checked s a h in
      rw (eq-eqb _ _ h) (written_sound (taken kind_standing) a size c.sound (has_room_lem s a c) refl (accepted_sound s a h))

  pub volume_query : length a ≡ area_bytes → is_volume_query submit_number ≡ true → Written (taken kind_held) a (submit_in s a).area
  unfolding submit_in written entry_for
  volume_query size h =
      let c = query_passed s a h in
      rw (query_refused submit_number h, h) (written_sound (taken kind_held) a size c.sound (has_room_lem s a c) refl (query_sound s a h))

  pub submit_refused : eqb submit_number accepted ≡ false → is_volume_query submit_number ≡ false → submit_in s a ≡ refused submit_number a
  unfolding submit_in
  submit_refused n h = rw (n, h)

  pub submit_unchanged : eqb submit_number accepted ≡ false → is_volume_query submit_number ≡ false → (submit_in s a).area ≡ a
  submit_unchanged n h = ap (λ (x : Acted). x.area) (submit_refused n h)

  -- what stands and is withdrawn after it
  module _ (size : length a ≡ area_bytes) where
    abbrev es : List Entry
    es = (journal_of a).entries

    abbrev es' : List Entry
    es' = (journal_of (submit_in s a).area).entries

    module _ (h : submit_number ≡ accepted) where
      pub accepted_standing : standing es' ≡ taken kind_standing ∷ standing es
      unfolding entry_for is_standing
      accepted_standing = standing_after (taken kind_standing) a (submit_in s a).area (submission size h)

      pub accepted_withdrawn : withdrawn es' ≡ withdrawn es
      unfolding entry_for is_withdrawn
      accepted_withdrawn = withdrawn_after (taken kind_standing) a (submit_in s a).area (submission size h)

    module _ (h : is_volume_query submit_number ≡ true) where
      pub query_standing : standing es' ≡ standing es
      unfolding entry_for is_standing
      query_standing = standing_after (taken kind_held) a (submit_in s a).area (volume_query size h)

      pub query_withdrawn : withdrawn es' ≡ withdrawn es
      unfolding entry_for is_withdrawn
      query_withdrawn = withdrawn_after (taken kind_held) a (submit_in s a).area (volume_query size h)

      pub query_held : held_of es' ≡ Some (taken kind_held)
      unfolding entry_for is_held
      query_held = held_after (taken kind_held) a (submit_in s a).area (volume_query size h)

-- ---- withdrawal
module _ (day value : ℕ) (a : List ℕ) where
  abbrev withdraw_number : ℕ
  withdraw_number = first_broken (withdraw_checks day value a)

  pub withdrawal_in : length a ≡ area_bytes → withdraw_number ≡ accepted → Withdrawn day value a (withdraw_in day value a).area
  unfolding withdraw_in
  withdrawal_in size h = rw (eq-eqb _ _ h) (withdrawal day value a size h)

  pub withdraw_refused_lem : eqb withdraw_number accepted ≡ false → withdraw_in day value a ≡ refused withdraw_number a
  unfolding withdraw_in
  withdraw_refused_lem h = rw h

  pub withdraw_unchanged : eqb withdraw_number accepted ≡ false → (withdraw_in day value a).area ≡ a
  withdraw_unchanged h = ap (λ (x : Acted). x.area) (withdraw_refused_lem h)

-- ---- fold
pub record CanFold (a : List ℕ) : Type 0 where
  pub sound : is_sound a ≡ true
  pub may : is_no_fold (standing (journal_of a).entries) ≡ false

module _ (a : List ℕ) where
  abbrev fold_number : ℕ
  fold_number = first_broken (fold_checks a)

  pub can_fold : fold_number ≡ accepted → CanFold a
  unfolding fold_checks area_rules fold_rules
  can_fold h =
      let u = unbroken accepted (fold_checks a) refl h in
      record { sound = not-false _ u.1.0; may = u.1.1.0 }

  pub fold_in_lem : length a ≡ area_bytes → fold_number ≡ accepted → Folded a (fold_in a).area
  unfolding fold_in
  fold_in_lem size h = let c = can_fold h in rw (eq-eqb _ _ h) (folded a c.sound c.may)

  pub fold_refused : eqb fold_number accepted ≡ false → fold_in a ≡ refused fold_number a
  unfolding fold_in
  fold_refused h = rw h

  pub fold_unchanged : eqb fold_number accepted ≡ false → (fold_in a).area ≡ a
  fold_unchanged h = ap (λ (x : Acted). x.area) (fold_refused h)

-- ---- report
pub report_unchanged : (a : List ℕ) → (report_in a).area ≡ a
unfolding report_in
report_unchanged a = by_test (eqb (first_broken (report_checks a)) accepted) (λ h. rw h) (λ h. rw h)

-- ---- trial
pub trial_unchanged : (s : Submission) (a : List ℕ) → (trial_in s a).area ≡ a
unfolding trial_in
trial_unchanged s a = refl
