-- Every example computes to what it says.
use mathlib.Core.Path.{refl}
use Rattle.arithmetic.specs.Powers.{ten_to}
use Rattle.calls.specs.Calls.{place_of}
use Rattle.calls.specs.Play.{number_of, is_trial, names}
use Rattle.sheet.specs.Sheet.{kind_byte, form_of}
use Rattle.tally.specs.Tally.{is_zero, has_other_dials, is_no_value, is_broken, tally_number}
use Rattle.tally.specs.Change.{tally_for, may_be, made_to, enrolled, with_read, last_without, without_read, taken, tally_after}
use Rattle.tally.specs.Examples.{year}
use Rattle.necktureen.specs.Told.{told_call, told_kind, told_of, kind_told, dials_of, value_of, flag_told, advance_told, exchange_told, told_by, all_told, told_over}
use Rattle.necktureen.proofs.told.told_examples_hold.Goals as goal

pub returns : goal.returns
unfolding ten_to place_of number_of is_trial names kind_byte form_of is_zero has_other_dials is_no_value is_broken tally_number tally_for may_be made_to enrolled with_read last_without without_read taken tally_after year told_call told_kind told_of kind_told dials_of value_of flag_told advance_told exchange_told told_by all_told told_over
returns c =
    record {
      enrolment = λ any. refl;
      pseudo_enrolment_row = λ any. refl;
      refused_enrolment_row = λ any. refl;
      submission = λ any. refl;
      held_submission = λ any. refl;
      withdrawal = λ any. refl;
      refused_withdrawal = λ any. refl;
      report = λ any. refl;
      refused_report_row = λ any. refl;
      folding = λ any. refl;
      refused_fold = λ any. refl;
      trial = λ any. refl;
      kind_1 = refl;
      kind_6 = refl;
      kind_0_enrols_none = refl;
      kind_7_enrols_none = refl;
      kind_2 = refl;
      kind_3 = refl;
      kind_0 = refl;
      kind_4 = refl;
      kind_5 = refl;
      kind_7 = refl;
      kind_255 = refl;
      refused_kind_1 = refl;
      refused_kind_2 = refl;
      refused_kind_3 = refl;
      in_order = λ any. refl;
      over_a_year = λ any. refl;
      elsewhere_over_a_year = λ any. refl;
      nowhere_over_a_year = λ any. refl;
    }
