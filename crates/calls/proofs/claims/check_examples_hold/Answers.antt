-- Every example computes to what it says.
use mathlib.Core.Path.{refl}
use Rattle.arithmetic.specs.Powers.{ten_to}
use Rattle.arithmetic.specs.Advance.{advance_of}
use Rattle.terms.specs.Refusal.{number_of}
use Rattle.terms.specs.Entry.{is_standing, is_withdrawn, is_held, those, slot_at, recent_of}
use Rattle.terms.specs.Letter.{is_known, is_opening, is_final, is_unchecked}
use Rattle.terms.specs.Profile.{takes}
use Rattle.rules.specs.Settings.{step_back}
use Rattle.rules.specs.Detection.{is_plain, scaled_of, is_small_step, is_not_rollover, is_near_turn, is_like_rate, is_small_part, is_small_turn, is_small_advance, is_rollover, detected}
use Rattle.rules.specs.Indicator.{indicated, indicated_flag}
use Rattle.rules.specs.Volume.{advance_over, has_volume_check, has_threshold, compared_with, compared, compared_number, is_low_volume, is_high_volume, is_over_capacity}
use Rattle.register.specs.Head.{no_carry, most_entries}
use Rattle.journal.specs.Journal.{held_of, is_there, on_day}
use Rattle.journal.specs.Sound.{any, exists, has_read}
use Rattle.calls.specs.Checks.{is_missing, is_bad_content, is_other_type, is_bad_date, is_withdrawn_read, is_repeat, is_at_on_day, is_other_indicator, is_back_dated, is_unopened, is_at_later, is_opening_indicated, is_held_equal, is_unheld_reread, is_full, is_denied, is_unclear, indicated_in, content_rules, same_day_rules, order_rules, indicator_rules, volume_rules, submit_rules}
use Rattle.calls.proofs.claims.check_examples_hold.Goals as goal

pub returns : goal.returns
unfolding ten_to advance_of is_standing is_withdrawn is_held those slot_at recent_of is_known is_opening is_final is_unchecked takes step_back is_plain scaled_of is_small_step is_not_rollover is_near_turn is_like_rate is_small_part is_small_turn is_small_advance is_rollover detected indicated number_of indicated_flag advance_over has_volume_check has_threshold compared_with compared compared_number is_low_volume is_high_volume is_over_capacity no_carry most_entries held_of is_there on_day any exists has_read is_missing is_bad_content is_other_type is_bad_date is_withdrawn_read is_repeat is_at_on_day is_other_indicator is_back_dated is_unopened is_at_later is_opening_indicated is_held_equal is_unheld_reread is_full is_denied is_unclear indicated_in content_rules same_day_rules order_rules indicator_rules volume_rules submit_rules
returns c =
    record {
      taken = refl;
      mark_missing = refl;
      below_the_mark = refl;
      type_unknown = refl;
      indicator_three = refl;
      indicator_two = refl;
      reread_two = refl;
      reread_one = refl;
      past_the_dials = refl;
      on_the_dials = refl;
      day_zero = refl;
      day_one = refl;
      day_to_come = refl;
      sent_on_its_day = refl;
      withdrawn_again = refl;
      withdrawn_otherwise = refl;
      withdrawn_day_alone = refl;
      withdrawn_value_alone = refl;
      held_not_withdrawn = refl;
      same_again = refl;
      older_again = refl;
      again_as_reread = refl;
      repeat_other_type = refl;
      repeat_other_value = refl;
      repeat_other_indicator = refl;
      repeat_other_day = refl;
      initial_on_day = refl;
      final_on_day = refl;
      opening_on_day = refl;
      final_on_another = refl;
      other_indicator = refl;
      older_other_indicator = refl;
      other_indicator_and_day = refl;
      older_different = refl;
      withdrawn_day_not = refl;
      held_day_not = refl;
      earlier = refl;
      before_all = refl;
      later = refl;
      on_the_last_day = refl;
      before_withdrawn = refl;
      cyclic_first = refl;
      final_first = refl;
      cyclic_after_withdrawn = refl;
      initial_opens = refl;
      opening_opens = refl;
      cyclic_second = refl;
      initial_second = refl;
      opening_second = refl;
      initial_after_withdrawn = refl;
      opening_after_withdrawn = refl;
      second_final = refl;
      first_final = refl;
      final_after_withdrawn = refl;
      other_after_final = refl;
      initial_false = refl;
      initial_true = refl;
      opening_false = refl;
      opening_true = refl;
      other_false = refl;
      original_held = refl;
      none_held = refl;
      held_other_day = refl;
      held_other_value = refl;
      held_other_type = refl;
      held_other_indicator = refl;
      no_reread = refl;
      fifty = refl;
      forty_nine = refl;
      forty_nine_and_held = refl;
      forty_nine_carried = refl;
      forty_eight_carried = refl;
      forty_eight_and_held = refl;
      rollover_false = refl;
      rollover_true = refl;
      rollover_not_set = refl;
      plain_true = refl;
      plain_false = refl;
      unclear_not_set = refl;
      unclear_false = refl;
      unclear_true = refl;
      flag_of_rollover = refl;
      flag_of_plain = refl;
      flag_of_false = refl;
      flag_of_true = refl;
    }
