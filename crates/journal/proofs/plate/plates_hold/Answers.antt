-- Every example computes to what it says.
use mathlib.Core.Path.{refl}
use Rattle.arithmetic.specs.Powers.{ten_to}
use Rattle.terms.specs.Profile.{meter_kind, profile_of}
use Rattle.register.specs.Bytes.{word_at, long_at}
use Rattle.register.specs.Head.{is_carry_at, carry_at, no_carry, head_of}
use Rattle.journal.specs.Sound.{is_plate, is_head, holds}
use Rattle.journal.proofs.plate.plates_hold.Goals as goal

pub returns : goal.returns
unfolding ten_to meter_kind profile_of word_at long_at is_carry_at carry_at no_carry head_of is_plate is_head holds
returns c =
    record {
      two_dials = refl;
      three_dials = refl;
      pseudo_of_two = refl;
      pseudo_of_three = refl;
      nine_dials = refl;
      ten_dials = refl;
      no_capacity = refl;
      head_of_two = refl;
      head_of_three = refl;
      pseudo_head_of_three = refl;
      largest_value = refl;
      past_the_dials = refl;
    }
