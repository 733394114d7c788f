-- Every example computes to what it says.
use mathlib.Core.Path.{◌≡◌, refl, ap}
use mathlib.Core.List.{List}
use Prim.Native.Nat.{ℕ}
use native.Mathlib.Omega.{arith}
use lib.Dec.{eqb}
use lib.IntN.{pos}
use lib.Signed.{mag}
use Rattle.terms.specs.Answer.{answer, refusal, reported, refused_report}
use Rattle.terms.specs.Number.{accepted}
use Rattle.terms.specs.Rule.{first_broken}
use Rattle.rules.specs.Settings.{step_back}
use Rattle.rules.specs.Detection.{is_plain, scaled_of, is_small_step, is_not_rollover, is_near_turn, is_like_rate, is_small_part, is_small_turn, is_small_advance, is_rollover, detected}
use Rattle.rules.specs.Indicator.{indicated}
use Rattle.calls.specs.declared.call.Reply.TheVariants.{Answered, Reported}
use Rattle.calls.specs.Calls.{fold_in}
use Rattle.calls.specs.DemandOne.{HasZeros}
use Rattle.calls.proofs.Bools.{by_test}
use Rattle.arithmetic.specs.Powers.{ten_to}
use Rattle.arithmetic.specs.Advance.{advance_of}
use Rattle.terms.specs.Letter.{is_final}
use Rattle.terms.specs.Profile.{meter_kind, profile_of}
use Rattle.terms.specs.Entry.{is_standing, is_withdrawn, is_held, those, slot_at, recent_of}
use Rattle.register.specs.Bytes.{word_at, long_at}
use Rattle.register.specs.Head.{is_carry_at, carry_at, no_carry, head_of, most_entries, head_bytes, offset_after}
use Rattle.journal.specs.Journal.{day_of, is_flagged, first_value, oldest_of}
use Rattle.journal.specs.Sound.{any, has_read, holds, is_before, is_carry, carries_right}
use Rattle.journal.specs.Total.{flagged_of, standing_in, flagged_in, first_in, total_of, report_of}
use Rattle.calls.specs.Calls.{place_of}
use Rattle.calls.specs.Checks.{is_withdrawn_read, is_oldest_kept, is_no_fold, is_not_standing, is_not_last, indicated_in, withdraw_rules, fold_rules, fold_checks}
use Rattle.calls.specs.Fold.{kept_from, stays, carry_after, head_after, folded_journal}
use Rattle.calls.specs.Play.{number_of, is_trial, names, may_change, is_picked, picked}
use Rattle.calls.specs.Ledger.{is_same_read, take_out, empty_ledger, flag_of, entered, is_accepted, ledger_after, ledger_of, has_accepted, is_enrolment, has_enrolment, first_value_of, last_less_first, less_first, is_among, are_none_of}
use Rattle.calls.specs.Examples.{year, four_reads}
use Rattle.calls.proofs.claims.examples_hold.Goals as goal

no_five : pos 5 ≡ pos 0 → ⊥
no_five h = let z : ◌≡◌ {A = ℕ} 5 0 = ap mag h in omega arith

fold_zeros : (area : List ℕ) → HasZeros (fold_in area).reply
unfolding fold_in HasZeros
fold_zeros area = by_test (eqb (first_broken (fold_checks area)) accepted) (λ h. rw h (refl, refl)) (λ h. rw h (refl, refl))

-- one field that is not 0 is enough
refusal_zeros : (number : ℕ) → HasZeros (Answered (refusal number))
unfolding HasZeros
refusal_zeros number = (refl, refl)

flag_no_zero : (number : ℕ) → HasZeros (Answered (answer number 1 (pos 0))) → ⊥
unfolding HasZeros
flag_no_zero number h = omega (arith, h.0)

advance_no_zero : (number : ℕ) → HasZeros (Answered (answer number 0 (pos 5))) → ⊥
unfolding HasZeros
advance_no_zero number h = no_five h.1

report_zeros : (number : ℕ) → HasZeros (Reported (refused_report number))
unfolding HasZeros
report_zeros number = (refl, refl, refl)

standing_no_zero : (number : ℕ) → HasZeros (Reported (reported number 1 0 (pos 0))) → ⊥
unfolding HasZeros
standing_no_zero number h = omega (arith, h.0)

flagged_no_zero : (number : ℕ) → HasZeros (Reported (reported number 0 1 (pos 0))) → ⊥
unfolding HasZeros
flagged_no_zero number h = omega (arith, h.1)

total_no_zero : (number : ℕ) → HasZeros (Reported (reported number 0 0 (pos 5))) → ⊥
unfolding HasZeros
total_no_zero number h = no_five h.2

pub returns : goal.returns
unfolding is_withdrawn those any has_read place_of is_withdrawn_read number_of is_trial names may_change is_picked picked is_same_read take_out empty_ledger flag_of entered is_accepted ledger_after ledger_of has_accepted is_enrolment has_enrolment first_value_of last_less_first is_among are_none_of year four_reads less_first kept_from stays carry_after head_after folded_journal is_standing is_held slot_at day_of is_flagged flagged_of standing_in flagged_in first_in first_value total_of report_of advance_of ten_to is_no_fold is_final is_oldest_kept oldest_of no_carry most_entries carries_right is_carry is_before holds is_not_standing is_not_last withdraw_rules fold_rules indicated_in recent_of detected indicated is_not_rollover step_back is_small_step is_rollover is_plain scaled_of is_near_turn is_like_rate is_small_part is_small_turn is_small_advance head_bytes offset_after word_at long_at is_carry_at carry_at head_of meter_kind profile_of
returns c =
    record {
      report_picked = refl;
      refused_report_not = refl;
      other_meter_not = refl;
      low_picked = refl;
      high_picked = refl;
      unclear_not = refl;
      picked_in_order = refl;
      report_accepted = refl;
      low_not_accepted = refl;
      high_not_accepted = refl;
      refused_report_not_accepted = refl;
      other_meter_not_accepted = refl;
      starts_empty = refl;
      put_at_end = refl;
      query_changes_nothing = refl;
      taken_out = refl;
      last_less_first_row = refl;
      back_over_the_turn = refl;
      one_read = refl;
      no_read = refl;
      among = refl;
      corrected_not_among = refl;
      not_apart = refl;
      apart = refl;
      withdrawn_refused = refl;
      corrected_not_refused = refl;
      standing_not_refused = refl;
      year_enrolled = refl;
      elsewhere_not_enrolled = refl;
      elsewhere_accepted = refl;
      refused_not_enrolled = refl;
      read_not_enrolled = refl;
      enrolment_is = refl;
      pseudo_enrolment_is = refl;
      submission_is_none = refl;
      withdrawal_is_none = refl;
      report_is_none = refl;
      fold_is_none = refl;
      trial_is_none = refl;
      queries_not_accepted = refl;
      fold_picked = refl;
      refused_fold_not = refl;
      folded_ledger = refl;
      unfolded_ledger = refl;
      fold_remembers = refl;
      less_first_row = refl;
      less_none = refl;
      folds = refl;
      folds_again = refl;
      three_no_fold = refl;
      four_fold = refl;
      five_fold = refl;
      final_no_fold = refl;
      older_final_no_fold = refl;
      three_refused = refl;
      four_folded = refl;
      oldest_kept_lem = refl;
      other_not_oldest = refl;
      uncarried_not_oldest = refl;
      oldest_not_last = refl;
      oldest_alone = refl;
      uncarried_alone = refl;
      refusal_zeros = refusal_zeros;
      flag_no_zero = flag_no_zero;
      advance_no_zero = advance_no_zero;
      report_zeros = report_zeros;
      standing_no_zero = standing_no_zero;
      flagged_no_zero = flagged_no_zero;
      total_no_zero = total_no_zero;
      fold_zeros = fold_zeros;
      folded_not_detected = refl;
      folded_not_recent = refl;
      carry_read = refl;
      no_carry_read = refl;
      after_the_carry = refl;
      after_the_meter = refl;
      reports = refl;
      reports_alike = refl;
      carry_right = refl;
      value_too_large = refl;
      flagged_above = refl;
      none_folded = refl;
      folded_to_the_day = refl;
      none_stands = refl;
      fewer_after = refl;
      fifty_without = refl;
    }
