-- Every example computes to what it says, those of any register from its length.
use mathlib.Core.Path.{refl}
use Rattle.arithmetic.specs.Powers.{ten_to}
use Rattle.terms.specs.Entry.{is_standing, is_withdrawn, is_held, those}
use Rattle.terms.specs.Letter.{is_known, is_opening, is_final, is_holdable}
use Rattle.terms.specs.Profile.{meter_kind, profile_of, takes}
use Rattle.register.specs.Area.{areas_in, area_of, all_zero}
use Rattle.register.specs.Bytes.{word_at, long_at}
use Rattle.register.specs.Entries.{entry_at}
use Rattle.register.specs.Head.{is_carry_at, carry_at, no_carry, head_of, head_bytes, most_entries, body_of, offset_after, entry_offset}
use Rattle.journal.specs.Journal.{entries_to, count_from, entry_count, journal_of, oldest_of}
use Rattle.journal.specs.Numbers.{area_rules}
use Rattle.journal.specs.Sound.{every, any, is_plate, is_head, holds, opens, is_in_range, is_read, days_rise, opens_right, has_one_final, has_read, are_apart, exists, may_be_held, is_held_right, is_before, is_carry, carries_right, are_in_order, are_sound, is_sound}
use Rattle.calls.specs.Checks.{report_checks}
use Rattle.calls.specs.Calls.{is_misfit, is_no_place, place_number, length_in, journal_length, journal_part}
use Rattle.calls.specs.PlaceExamples.{register}
use Rattle.calls.proofs.claims.place_examples_hold.Goals as goal

pub returns : goal.returns
unfolding ten_to is_standing is_withdrawn is_held those is_known is_opening is_final is_holdable meter_kind profile_of takes areas_in area_of all_zero word_at long_at entry_at is_carry_at carry_at no_carry head_of head_bytes most_entries body_of offset_after entry_offset entries_to count_from entry_count journal_of oldest_of area_rules every any is_plate is_head holds opens is_in_range is_read days_rise opens_right has_one_final has_read are_apart exists may_be_held is_held_right is_before is_carry carries_right are_in_order are_sound is_sound report_checks is_misfit is_no_place place_number length_in journal_length journal_part register
returns c =
    record {
      first_place = λ bytes h. rw h;
      last_place = λ bytes h. rw h;
      past_the_last = λ bytes h. rw h;
      a_byte_short = λ bytes h. rw h;
      a_byte_more = λ bytes h. rw h;
      misfit_first = λ bytes h. rw h;
      meter_alone = refl;
      to_the_standing = refl;
      to_the_withdrawn = refl;
      to_the_held = refl;
      after_the_carry = refl;
      handed_back = refl;
      none_enrolled = refl;
      damaged_none = refl;
      no_place_none = λ bytes h. rw h;
      misfit_none = λ bytes h. rw h;
    }
