-- Every example computes to what it says.
use mathlib.Core.Path.{refl}
use Rattle.arithmetic.specs.Powers.{ten_to}
use Rattle.arithmetic.specs.Advance.{advance_of}
use Rattle.terms.specs.Refusal.{number_of}
use Rattle.terms.specs.Entry.{is_standing, is_withdrawn, is_held, those, slot_at, recent_of}
use Rattle.terms.specs.Letter.{is_known, is_opening, is_final, is_unchecked}
use Rattle.terms.specs.Profile.{takes}
use Rattle.rules.specs.Settings.{step_back}
use Rattle.rules.specs.Detection.{is_plain, scaled_of, is_small_step, is_not_rollover, is_near_turn, is_like_rate, is_small_part, is_small_turn, is_small_advance, is_rollover, detected}
use Rattle.rules.specs.Indicator.{indicated, indicated_flag}
use Rattle.rules.specs.Volume.{advance_over, has_volume_check, has_threshold, compared_with, compared, compared_number, is_low_volume, is_high_volume, is_over_capacity}
use Rattle.register.specs.Head.{no_carry, most_entries}
use Rattle.journal.specs.Journal.{held_of, is_there, on_day}
use Rattle.journal.specs.Sound.{any, exists, has_read}
use Rattle.calls.specs.Checks.{is_missing, is_bad_content, is_other_type, is_bad_date, is_withdrawn_read, is_repeat, is_at_on_day, is_other_indicator, is_back_dated, is_unopened, is_at_later, is_opening_indicated, is_held_equal, is_unheld_reread, is_full, is_denied, is_unclear, indicated_in, content_rules, same_day_rules, order_rules, indicator_rules, volume_rules, submit_rules}
use Rattle.calls.proofs.claims.order_examples_hold.Goals as goal

pub returns : goal.returns
unfolding ten_to advance_of is_standing is_withdrawn is_held those slot_at recent_of is_known is_opening is_final is_unchecked takes step_back is_plain scaled_of is_small_step is_not_rollover is_near_turn is_like_rate is_small_part is_small_turn is_small_advance is_rollover detected indicated number_of indicated_flag advance_over has_volume_check has_threshold compared_with compared compared_number is_low_volume is_high_volume is_over_capacity no_carry most_entries held_of is_there on_day any exists has_read is_missing is_bad_content is_other_type is_bad_date is_withdrawn_read is_repeat is_at_on_day is_other_indicator is_back_dated is_unopened is_at_later is_opening_indicated is_held_equal is_unheld_reread is_full is_denied is_unclear indicated_in content_rules same_day_rules order_rules indicator_rules volume_rules submit_rules
returns c =
    record {
      missing_before_content = refl;
      content_before_date = refl;
      date_before_withdrawn = refl;
      date_before_repeat = refl;
      withdrawn_before_at = refl;
      withdrawn_before_eh = refl;
      withdrawn_before_bf = refl;
      withdrawn_before_back_dated = refl;
      withdrawn_before_df = refl;
      withdrawn_before_no_original = refl;
      repeat_before_at = refl;
      repeat_before_at_initial = refl;
      at_before_eh = refl;
      at_before_bf = refl;
      eh_before_bf = refl;
      repeat_before_back_dated = refl;
      at_before_back_dated = refl;
      eh_before_back_dated = refl;
      bf_before_back_dated = refl;
      bf_before_no_original = refl;
      bf_before_full = refl;
      eh_before_ee = refl;
      back_dated_before_at = refl;
      back_dated_before_at_initial = refl;
      back_dated_before_no_original = refl;
      back_dated_before_full = refl;
      df_before_no_original = refl;
      df_before_full = refl;
      at_before_indicator = refl;
      at_before_no_original = refl;
      at_before_full = refl;
      indicator_before_no_original = refl;
      indicator_before_full = refl;
      indicator_before_ee = refl;
      no_original_before_full = refl;
      no_original_before_ee = refl;
      full_before_ee = refl;
      full_before_ef = refl;
      ee_before_low = refl;
      ee_before_high = refl;
      ef_before_low = refl;
      high_before_capacity = refl;
      low_before_capacity = refl;
    }
