-- Every example computes to what it says.
use mathlib.Core.Path.{refl}
use Rattle.calendar.specs.Year.{is_leap, year_length}
use Rattle.calendar.specs.Month.{has_thirty, length_in, month_length}
use Rattle.calendar.specs.Date.{next, after, date_of}
use Rattle.arithmetic.specs.Powers.{ten_to}
use Rattle.arithmetic.specs.Advance.{advance_of}
use Rattle.terms.specs.Refusal.{number_of}
use Rattle.terms.specs.Entry.{slot_at, recent_of}
use Rattle.terms.specs.Letter.{is_unchecked}
use Rattle.rules.specs.Settings.{step_back}
use Rattle.rules.specs.Detection.{is_plain, scaled_of, is_small_step, is_not_rollover, is_near_turn, is_like_rate, is_small_part, is_small_turn, is_small_advance, is_rollover, detected}
use Rattle.rules.specs.Indicator.{indicated, indicated_flag}
use Rattle.rules.specs.Volume.{advance_over, has_volume_check, has_threshold, compared_with, compared, compared_number, days_in_year, is_within_capacity, is_low_volume, is_high_volume, is_over_capacity, volume_number}
use Rattle.rules.proofs.examples.rule_examples_hold.Goals as goal

pub returns : goal.returns
unfolding is_leap year_length has_thirty length_in month_length next after date_of ten_to advance_of slot_at recent_of is_unchecked step_back is_plain scaled_of is_small_step is_not_rollover is_near_turn is_like_rate is_small_part is_small_turn is_small_advance is_rollover detected indicated indicated_flag advance_over has_volume_check has_threshold compared_with compared compared_number days_in_year is_within_capacity is_low_volume is_high_volume is_over_capacity volume_number number_of
returns c =
    record {
      settings_of_four = refl;
      settings_of_nine = refl;
      settings_of_three = refl;
      volume_limits = refl;
      at_the_high_mark = refl;
      below_the_high_mark = refl;
      at_the_low_mark = refl;
      not_plain = refl;
      three_at_the_high_mark = refl;
      three_below_the_high_mark = refl;
      three_at_the_low_mark = refl;
      nine_at_the_high_mark = refl;
      nine_below_the_high_mark = refl;
      nine_at_the_low_mark = refl;
      lowest_before = refl;
      too_low_before = refl;
      highest_after = refl;
      too_high_after = refl;
      rollover_with_false = refl;
      not_a_rollover_with_true = refl;
      indeterminate_with_not_set = refl;
      rollover_with_not_set = refl;
      rollover_with_true = refl;
      not_a_rollover_with_not_set = refl;
      not_a_rollover_with_false = refl;
      indeterminate_with_true = refl;
      indeterminate_with_false = refl;
      forty_of_p = refl;
      below_forty = refl;
      flagged_advance = refl;
      plain_advance_row = refl;
      low_reread = refl;
      high_read = refl;
      high_reread = refl;
      within_capacity = refl;
      over_capacity_row = refl;
      over_capacity_reread = refl;
      reconnection_low = refl;
      reconnection_over_capacity = refl;
      initial_over_capacity = refl;
      opening_over_capacity = refl;
      disconnection_over_capacity = refl;
    }
