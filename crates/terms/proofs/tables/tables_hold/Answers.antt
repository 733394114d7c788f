-- Every row computes to what it says.
use mathlib.Core.Path.{refl}
use Rattle.terms.specs.Entry.{is_standing, is_withdrawn, is_held}
use Rattle.terms.specs.Letter.{is_known, is_opening, is_final, is_holdable, is_unchecked}
use Rattle.terms.specs.Profile.{meter_kind, profile_of, takes}
use Rattle.terms.specs.Refusal.{number_of}
use Rattle.terms.specs.Tables.{below}
use Rattle.terms.proofs.tables.tables_hold.Goals as goal

pub returns : goal.returns
unfolding is_standing is_withdrawn is_held is_known is_opening is_final is_holdable is_unchecked meter_kind profile_of takes number_of below
returns c =
    record {
      accepted_0 = refl;
      repeat_1 = refl;
      misfit_2 = refl;
      no_meter_3 = refl;
      damaged_4 = refl;
      missing_5 = refl;
      content_6 = refl;
      date_7 = refl;
      withdrawn_8 = refl;
      at_9 = refl;
      eh_10 = refl;
      bf_11 = refl;
      back_dated_12 = refl;
      df_13 = refl;
      indicator_on_opening_14 = refl;
      no_original_15 = refl;
      full_16 = refl;
      ee_17 = refl;
      ef_18 = refl;
      low_19 = refl;
      high_20 = refl;
      capacity_21 = refl;
      not_standing_22 = refl;
      not_last_23 = refl;
      enrolled_24 = refl;
      plate_25 = refl;
      sheet_26 = refl;
      no_fold_27 = refl;
      oldest_kept_28 = refl;
      other_type_29 = refl;
      refusal_1 = refl;
      refusal_2 = refl;
      refusal_3 = refl;
      refusal_4 = refl;
      refusal_5 = refl;
      refusal_6 = refl;
      refusal_7 = refl;
      refusal_8 = refl;
      refusal_9 = refl;
      refusal_10 = refl;
      refusal_11 = refl;
      refusal_12 = refl;
      refusal_13 = refl;
      refusal_14 = refl;
      refusal_15 = refl;
      refusal_16 = refl;
      refusal_17 = refl;
      refusal_18 = refl;
      refusal_19 = refl;
      refusal_20 = refl;
      refusal_21 = refl;
      refusal_22 = refl;
      refusal_23 = refl;
      refusal_24 = refl;
      refusal_25 = refl;
      refusal_26 = refl;
      refusal_27 = refl;
      refusal_28 = refl;
      refusal_29 = refl;
      none_broken = refl;
      both_broken = refl;
      accepted_zeros = refl;
      answer_fields = refl;
      refused_zeros = refl;
      accepted_answer = refl;
      refused_answer = refl;
      accepted_report = refl;
      refused_report_row = refl;
      report_fields = refl;
      report_zeros = refl;
      meter_kind_1 = refl;
      standing_kind_2 = refl;
      withdrawn_kind_3 = refl;
      held_kind_4 = refl;
      carry_kind_5 = refl;
      pseudo_kind_7 = refl;
      standing_kinds = refl;
      withdrawn_kinds = refl;
      held_kinds = refl;
      kind_of_ordinary = refl;
      kind_of_pseudo = refl;
      profile_of_1 = refl;
      profile_of_7 = refl;
      not_set_0 = refl;
      false_1 = refl;
      true_2 = refl;
      letter_i_row = refl;
      letter_o_row = refl;
      letter_f_row = refl;
      letter_c_row = refl;
      letter_u_row = refl;
      letter_r_row = refl;
      letter_t_row = refl;
      letter_s_row = refl;
      letter_x_row = refl;
      letter_y_row = refl;
      letter_e_row = refl;
      known = refl;
      opening = refl;
      final = refl;
      holdable = refl;
      unchecked = refl;
      ordinary_takes = refl;
      pseudo_takes = refl;
    }
