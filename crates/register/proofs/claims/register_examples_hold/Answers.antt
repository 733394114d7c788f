-- Every example computes to what it says.
use mathlib.Core.Path.{refl}
use Rattle.terms.specs.Profile.{meter_kind, profile_of}
use Rattle.register.specs.Area.{areas_in, area_of, with_area, all_zero}
use Rattle.register.specs.Bytes.{word_at, long_at, put_word, put_long}
use Rattle.register.specs.Entries.{entry_at, put_entry}
use Rattle.register.specs.Head.{is_carry_at, carry_at, no_carry, head_of, put_meter, put_carry, put_head, head_bytes, body_of, offset_after, entry_offset}
use Rattle.register.proofs.claims.register_examples_hold.Goals as goal

pub returns : goal.returns
unfolding meter_kind profile_of areas_in area_of with_area all_zero word_at long_at put_word put_long entry_at put_entry is_carry_at carry_at no_carry head_of put_meter put_carry put_head head_bytes body_of offset_after entry_offset
returns c =
    record {
      register_bytes_row = refl;
      area_count = λ register. refl;
      area_bytes_row = refl;
      all_areas = refl;
      place_0 = refl;
      place_1 = refl;
      place_2 = refl;
      with_place_1 = refl;
      zeros = refl;
      first_not_zero = refl;
      last_not_zero = refl;
      byte_read = refl;
      past_the_end = refl;
      word_read = refl;
      long_read = refl;
      word_written = refl;
      long_written = refl;
      entry_read = refl;
      entry_written = refl;
      entry_zeroed = refl;
      first_entry = refl;
      third_entry = refl;
      meter_read = refl;
      pseudo_read = refl;
      meter_written = refl;
      pseudo_written = refl;
      carry_read = refl;
      carry_written = refl;
      body = refl;
      body_after_a_carry = refl;
      third_in_the_area = refl;
      third_after_a_carry = refl;
    }
