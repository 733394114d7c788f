-- Every example computes to what it says.
use mathlib.Core.Path.{refl}
use Rattle.arithmetic.specs.Powers.{ten_to}
use Rattle.arithmetic.specs.Advance.{advance_of}
use Rattle.calls.specs.Calls.{place_of}
use Rattle.calls.specs.Play.{number_of, is_trial, names}
use Rattle.tally.specs.Tally.{is_zero, has_other_dials, is_no_value, is_broken, tally_number, tally_total, tally_report}
use Rattle.tally.specs.Change.{tally_for, may_be, made_to, enrolled, with_read, last_without, without_read, taken, tally_after}
use Rattle.tally.specs.Kept.{tally_over, is_dated, are_dated}
use Rattle.tally.specs.Examples.{year}
use Rattle.tally.proofs.claims.tally_examples_hold.Goals as goal

pub returns : goal.returns
unfolding ten_to advance_of place_of number_of is_trial names is_zero has_other_dials is_no_value is_broken tally_number tally_total tally_report tally_for may_be made_to enrolled with_read last_without without_read taken tally_after tally_over is_dated are_dated year
returns c =
    record {
      zero = refl;
      zero_but_standing = refl;
      zero_but_flagged = refl;
      zero_but_first = refl;
      zero_but_last = refl;
      two_dials = refl;
      three_dials = refl;
      nine_dials = refl;
      ten_dials = refl;
      largest_first = refl;
      first_past_the_dials = refl;
      largest_last = refl;
      last_past_the_dials = refl;
      largest_of_nine = refl;
      past_nine_dials = refl;
      first_of_none = refl;
      last_of_none = refl;
      all_flagged = refl;
      flagged_above = refl;
      flagged_of_none = refl;
      most_standing_row = refl;
      standing_above = refl;
      zero_report = refl;
      broken_report = refl;
      none_report = refl;
      one_report = refl;
      two_report = refl;
      back_report = refl;
      turned_report = refl;
      two_turns_report = refl;
      most_report = refl;
      enrols = refl;
      enrols_pseudo = refl;
      enrols_three = refl;
      enrols_nine = refl;
      two_not_enrolled = refl;
      ten_not_enrolled = refl;
      refused_not_enrolled = refl;
      zero_takes_no_read = refl;
      zero_takes_no_value = refl;
      zero_takes_no_withdrawal = refl;
      zero_takes_no_fold = refl;
      not_enrolled_again = refl;
      reads_not_enrolled_over = refl;
      broken_not_enrolled = refl;
      first_read = refl;
      first_read_flagged = refl;
      second_read = refl;
      flag_counted = refl;
      flags_counted = refl;
      first_of_0_kept = refl;
      refused_not_counted = refl;
      low_not_counted = refl;
      high_not_counted = refl;
      taken_back = refl;
      taken_back_over_the_turn = refl;
      two_turns_taken_back = refl;
      step_back_taken_back = refl;
      withdrawal_refused = refl;
      only_read_gone = refl;
      only_read_gone_whatever_advance = refl;
      only_flagged_gone = refl;
      fold_changes_nothing = refl;
      no_fold_changes_nothing = refl;
      report_changes_nothing = refl;
      trial_changes_nothing = refl;
      low_trial_changes_nothing = refl;
      enrol_reported = refl;
      submit_reported = refl;
      withdraw_reported = refl;
      fold_reported = refl;
      report_answered = refl;
      from_first_of_none = refl;
      from_a_last_too_large = refl;
      from_flagged_above = refl;
      back_from_a_last_too_large = refl;
      back_from_standing_above = refl;
      largest_read = refl;
      to_a_value_too_large = refl;
      to_a_first_too_large = refl;
      last_that_may_stand = refl;
      to_standing_above = refl;
      to_flagged_above = refl;
      back_to_flagged_above = refl;
      back_to_the_largest = refl;
      back_to_a_last_too_large = refl;
      back_by_a_turn_too_many = refl;
      none_to_withdraw = refl;
      no_flag_to_take_off = refl;
      back_to_0 = refl;
      back_below_0 = refl;
      back_far_below_0 = refl;
      over_a_year = refl;
      elsewhere_over_a_year = refl;
      nowhere_over_a_year = refl;
      last_day_lem = refl;
      past_the_last_day = refl;
      others_of_any_day = refl;
    }
