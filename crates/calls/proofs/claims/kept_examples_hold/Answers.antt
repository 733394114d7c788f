-- Every example computes to what it says.
use mathlib.Core.Path.{refl}
use Rattle.arithmetic.specs.Powers.{ten_to}
use Rattle.terms.specs.Letter.{is_known, is_opening, is_final, is_holdable}
use Rattle.terms.specs.Profile.{meter_kind, profile_of, takes}
use Rattle.terms.specs.Entry.{is_standing, is_withdrawn, is_held, those, slot_at}
use Rattle.register.specs.Area.{all_zero}
use Rattle.register.specs.Bytes.{word_at, long_at}
use Rattle.register.specs.Entries.{entry_at}
use Rattle.register.specs.Head.{is_carry_at, carry_at, no_carry, head_of, head_bytes, most_entries, body_of}
use Rattle.journal.specs.Journal.{entries_to, count_from, entry_count, journal_of, is_there, day_of, on_day, oldest_of}
use Rattle.journal.specs.Sound.{every, any, is_plate, is_head, holds, opens, is_in_range, is_read, days_rise, opens_right, has_one_final, has_read, are_apart, exists, may_be_held, is_held_right, is_before, is_carry, carries_right, are_in_order, are_sound, is_sound}
use Rattle.calls.specs.Checks.{is_missing, is_bad_content, is_other_type, is_bad_date, is_withdrawn_read, is_repeat, is_at_on_day, is_other_indicator, is_back_dated, content_rules, same_day_rules, order_rules, submit_rules}
use Rattle.calls.specs.Fold.{kept_from, stays, head_after, folded_journal}
use Rattle.calls.specs.FoldKeeps.{is_out_by_day, is_kept_out, is_wrong_by_itself, is_wrong_number}
use Rattle.calls.specs.Kept.{is_good}
use Rattle.calls.proofs.claims.kept_examples_hold.Goals as goal

pub returns : goal.returns
unfolding ten_to is_known is_opening is_final is_holdable meter_kind profile_of takes is_standing is_withdrawn is_held those slot_at all_zero word_at long_at entry_at is_carry_at carry_at no_carry head_of head_bytes most_entries body_of entries_to count_from entry_count journal_of is_there day_of on_day oldest_of every any is_plate is_head holds opens is_in_range is_read days_rise opens_right has_one_final has_read are_apart exists may_be_held is_held_right is_before is_carry carries_right are_in_order are_sound is_sound is_missing is_bad_content is_other_type is_bad_date is_withdrawn_read is_repeat is_at_on_day is_other_indicator is_back_dated content_rules same_day_rules order_rules submit_rules kept_from stays head_after folded_journal is_out_by_day is_kept_out is_wrong_by_itself is_wrong_number is_good
returns c =
    record {
      accepted_not_by_day = refl;
      repeat_not_by_day = refl;
      date_not_by_day = refl;
      withdrawn_not_by_day = refl;
      nine_by_day = refl;
      ten_by_day = refl;
      eleven_by_day = refl;
      twelve_by_day = refl;
      thirteen_not_by_day = refl;
      other_type_not_by_day = refl;
      accepted_not_out = refl;
      repeat_not_out = refl;
      date_not_out = refl;
      withdrawn_out = refl;
      nine_out = refl;
      twelve_out = refl;
      thirteen_not_out = refl;
      other_type_not_out = refl;
      accepted_not_wrong = refl;
      repeat_not_wrong = refl;
      damaged_not_wrong = refl;
      missing_wrong = refl;
      content_wrong = refl;
      date_wrong = refl;
      withdrawn_not_wrong = refl;
      oldest_kept_not_wrong = refl;
      other_type_wrong = refl;
      read_right = refl;
      read_missing = refl;
      read_too_large = refl;
      read_undated = refl;
      read_from_later = refl;
      read_on_a_pseudo_meter = refl;
      initial_on_a_pseudo_meter = refl;
      early_before = refl;
      early_after = refl;
      same_day_before = refl;
      same_day_after = refl;
      other_indicator_before = refl;
      other_indicator_after = refl;
      initial_before = refl;
      initial_after = refl;
      later_before = refl;
      later_after = refl;
      zeros_good = refl;
      enrolled_good = refl;
      pseudo_good = refl;
      opened_good = refl;
      folded_good = refl;
      stray_byte = refl;
      other_kind = refl;
      no_dials = refl;
      opened_wrongly = refl;
      carry_alone = refl;
      byte_after_the_end = refl;
    }
