-- Every example computes to what it says.
use mathlib.Core.Path.{refl}
use Rattle.arithmetic.specs.Powers.{ten_to}
use Rattle.terms.specs.Entry.{is_standing, is_withdrawn, is_held, those}
use Rattle.terms.specs.Letter.{is_known, is_opening, is_final, is_holdable}
use Rattle.terms.specs.Profile.{meter_kind, profile_of, takes}
use Rattle.terms.specs.Tables.{below}
use Rattle.register.specs.Area.{all_zero}
use Rattle.register.specs.Bytes.{word_at, long_at, put_word, put_long}
use Rattle.register.specs.Entries.{entry_at, put_entry}
use Rattle.register.specs.Head.{is_carry_at, carry_at, no_carry, head_of, put_meter, put_carry, put_head, head_bytes, most_entries, body_of, offset_after}
use Rattle.journal.specs.Journal.{entries_to, count_from, entry_count, journal_of, held_of, on_day, first_value, oldest_of, newest_at, put_entries, area_for}
use Rattle.journal.specs.Sound.{every, any, is_plate, is_head, holds, opens, is_in_range, is_read, days_rise, opens_right, has_one_final, has_read, are_apart, exists, may_be_held, is_held_right, is_before, is_carry, carries_right, are_in_order, are_sound, is_sound}
use Rattle.journal.proofs.claims.sound_examples_hold.Goals as goal

pub returns : goal.returns
unfolding ten_to is_standing is_withdrawn is_held those is_known is_opening is_final is_holdable meter_kind profile_of takes below all_zero word_at long_at put_word put_long entry_at put_entry is_carry_at carry_at no_carry head_of put_meter put_carry put_head head_bytes most_entries body_of offset_after entries_to count_from entry_count journal_of held_of on_day first_value oldest_of newest_at put_entries area_for every any is_plate is_head holds opens is_in_range is_read days_rise opens_right has_one_final has_read are_apart exists may_be_held is_held_right is_before is_carry carries_right are_in_order are_sound is_sound
returns c =
    record {
      empty = refl;
      one_stands = refl;
      two_stand = refl;
      of_every_kind = refl;
      kinds = refl;
      day_1 = refl;
      day_0 = refl;
      day_0_withdrawn = refl;
      value_9999 = refl;
      value_10000 = refl;
      value_10000_withdrawn = refl;
      types = refl;
      indicators = refl;
      flags = refl;
      indicator_of_i = refl;
      indicator_of_o = refl;
      indicator_of_i_withdrawn = refl;
      indicator_of_o_after_a_carry = refl;
      day_later = refl;
      day_again = refl;
      day_earlier = refl;
      withdrawn_day_earlier = refl;
      opens = refl;
      opens_with_flag = refl;
      opens_after_withdrawn = refl;
      later = refl;
      carried_opens = refl;
      carried_flag_of_i = refl;
      carried_flag_of_o = refl;
      carried_flag_of_c = refl;
      carried_flag_of_f = refl;
      carried_later_i = refl;
      carried_later_o = refl;
      carried_none_stands = refl;
      one_final = refl;
      two_final = refl;
      two_final_apart = refl;
      final_withdrawn = refl;
      other_value = refl;
      other_day = refl;
      same_read = refl;
      same_read_later = refl;
      withdrawn_twice = refl;
      held_before_withdrawn = refl;
      held_before_standing = refl;
      two_held = refl;
      held_types = refl;
      held_later = refl;
      held_same_day = refl;
      held_earlier = refl;
      held_earlier_than_withdrawn = refl;
      held_none_stands = refl;
      held_after_final = refl;
      held_second_final = refl;
      held_final_after_withdrawn = refl;
      no_entry = refl;
      two_entries = refl;
      fifty_entries = refl;
      fewer_after_a_carry = refl;
      journal_read = refl;
      journal_written = refl;
      zeros_to_the_end = refl;
      not_all_zeros = refl;
      only_first = refl;
      no_first = refl;
      kept_entries = refl;
      held_entry_row = refl;
      none_held = refl;
      on_its_day = refl;
      on_a_withdrawn_day = refl;
      first_value_row = refl;
      oldest = refl;
      newest_place = refl;
    }
