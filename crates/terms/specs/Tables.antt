-- 01, The register and Calls: the papers' own tables, entry by entry. Two numbers exchanged in the definitions and in the code alike would change
-- every answer and no other statement.
use Rattle.std.specs.Prelude.{◌≡◌, Bool, true, false, cond, List, [], ◌∷◌, ℕ, zero, suc, pos, Ok, Err}
use Rattle.terms.specs.declared.entry.Entry.{Entry}
use Rattle.terms.specs.declared.profile.Profile.TheVariants.{Ordinary, Pseudo}
use Rattle.terms.specs.Number.{accepted, repeat, misfit, no_meter, damaged, missing, content, date, withdrawn_read, read_at, read_eh, read_bf, back_dated, read_df, indicator_on_opening, no_original, full, read_ee, read_ef, low, high, over_capacity, not_standing, not_last, enrolled, plate, sheet_fault, no_fold, oldest_kept, other_type}
use Rattle.terms.specs.declared.refusal.Refusal.TheVariants as r
use Rattle.terms.specs.Refusal.{number_of}
use Rattle.terms.specs.Answer.{answer, acceptance, refusal, reported, refused_report, as_answer, as_report}
use Rattle.terms.specs.Entry.{kind_meter, kind_standing, kind_withdrawn, kind_held, kind_carry, kind_pseudo, indicator_not_set, indicator_false, indicator_true, is_standing, is_withdrawn, is_held}
use Rattle.terms.specs.Letter.{letter_i, letter_o, letter_f, letter_c, letter_u, letter_r, letter_t, letter_s, letter_x, letter_y, letter_e, is_known, is_opening, is_final, is_holdable, is_unchecked}
use Rattle.terms.specs.Profile.{meter_kind, profile_of, takes}
use Rattle.terms.specs.Rule.{rule, first_broken}

-- the numbers below n that pass a test, in their order, and then others
unfoldable pub below : (ℕ → Bool) → ℕ → List ℕ → List ℕ
below test zero others = others
below test (suc n) others = below test n (cond (test n) (n ∷ others) others)

-- the bytes that pass a test
abbrev pub bytes : (ℕ → Bool) → List ℕ
bytes test = below test 256 []

abbrev pub entry_of : ℕ → Entry
entry_of kind = record { kind = kind; day = 1; value = 0; letter = letter_i; indicator = indicator_not_set; flag = 0 }

-- THE CLAIM: one row for each entry of a table
pub record TablesHold : Type 0 where
  -- each number and its word: "0 | accepted", "1 | repeat", "2 | misfit", and so on
  pub accepted_0 : accepted ≡ 0
  pub repeat_1 : repeat ≡ 1
  pub misfit_2 : misfit ≡ 2
  pub no_meter_3 : no_meter ≡ 3
  pub damaged_4 : damaged ≡ 4
  pub missing_5 : missing ≡ 5
  pub content_6 : content ≡ 6
  pub date_7 : date ≡ 7
  pub withdrawn_8 : withdrawn_read ≡ 8
  pub at_9 : read_at ≡ 9
  pub eh_10 : read_eh ≡ 10
  pub bf_11 : read_bf ≡ 11
  pub back_dated_12 : back_dated ≡ 12
  pub df_13 : read_df ≡ 13
  pub indicator_on_opening_14 : indicator_on_opening ≡ 14
  pub no_original_15 : no_original ≡ 15
  pub full_16 : full ≡ 16
  -- "17, 18 .. EE, EF"; "19, 20, 21 .. low, high, capacity"
  pub ee_17 : read_ee ≡ 17
  pub ef_18 : read_ef ≡ 18
  pub low_19 : low ≡ 19
  pub high_20 : high ≡ 20
  pub capacity_21 : over_capacity ≡ 21
  pub not_standing_22 : not_standing ≡ 22
  pub not_last_23 : not_last ≡ 23
  pub enrolled_24 : enrolled ≡ 24
  pub plate_25 : plate ≡ 25
  pub sheet_26 : sheet_fault ≡ 26
  -- 02, 2: "27, fewer than four stand or an F stands", "28, withdrawal of the oldest kept read"; 02, 4: "29, another type on a pseudo meter"
  pub no_fold_27 : no_fold ≡ 27
  pub oldest_kept_28 : oldest_kept ≡ 28
  pub other_type_29 : other_type ≡ 29
  -- each refusal and its number
  pub refusal_1 : number_of r.Repeat ≡ 1
  pub refusal_2 : number_of r.Misfit ≡ 2
  pub refusal_3 : number_of r.NoMeter ≡ 3
  pub refusal_4 : number_of r.Damaged ≡ 4
  pub refusal_5 : number_of r.Missing ≡ 5
  pub refusal_6 : number_of r.Content ≡ 6
  pub refusal_7 : number_of r.Date ≡ 7
  pub refusal_8 : number_of r.Withdrawn ≡ 8
  pub refusal_9 : number_of r.At ≡ 9
  pub refusal_10 : number_of r.Eh ≡ 10
  pub refusal_11 : number_of r.Bf ≡ 11
  pub refusal_12 : number_of r.BackDated ≡ 12
  pub refusal_13 : number_of r.Df ≡ 13
  pub refusal_14 : number_of r.IndicatorOnOpening ≡ 14
  pub refusal_15 : number_of r.NoOriginal ≡ 15
  pub refusal_16 : number_of r.Full ≡ 16
  pub refusal_17 : number_of r.Ee ≡ 17
  pub refusal_18 : number_of r.Ef ≡ 18
  pub refusal_19 : number_of r.Low ≡ 19
  pub refusal_20 : number_of r.High ≡ 20
  pub refusal_21 : number_of r.Capacity ≡ 21
  pub refusal_22 : number_of r.NotStanding ≡ 22
  pub refusal_23 : number_of r.NotLast ≡ 23
  pub refusal_24 : number_of r.Enrolled ≡ 24
  pub refusal_25 : number_of r.Plate ≡ 25
  pub refusal_26 : number_of r.Sheet ≡ 26
  pub refusal_27 : number_of r.NoFold ≡ 27
  pub refusal_28 : number_of r.OldestKept ≡ 28
  pub refusal_29 : number_of r.OtherType ≡ 29
  -- "the number of the first rule broken", and 0 where none is
  pub none_broken : first_broken (rule low false ∷ rule high false ∷ []) ≡ 0
  pub both_broken : first_broken (rule misfit false ∷ rule high true ∷ rule low true ∷ []) ≡ 20
  -- "Each answers number, flag, advance"; "Every number but 0 comes with zeros in the other fields"
  pub accepted_zeros : acceptance ≡ record { number = 0; flag = 0; advance = pos 0 }
  pub answer_fields : answer 0 1 (pos 500) ≡ record { number = 0; flag = 1; advance = pos 500 }
  pub refused_zeros : refusal 26 ≡ record { number = 26; flag = 0; advance = pos 0 }
  -- what each answer says in numbers
  pub accepted_answer : as_answer (Ok (record { flag = 1; advance = pos 500 })) ≡ record { number = 0; flag = 1; advance = pos 500 }
  pub refused_answer : as_answer (Err r.Low) ≡ record { number = 19; flag = 0; advance = pos 0 }
  pub accepted_report : as_report (Ok (record { standing = 3; flagged = 1; total = pos 400 })) ≡ record { number = 0; standing = 3; flagged = 1; total = pos 400 }
  pub refused_report_row : as_report (Err r.Damaged) ≡ record { number = 4; standing = 0; flagged = 0; total = pos 0 }
  -- "Report (place) answers number, standing reads, flagged among them, and total"
  pub report_fields : reported 0 3 1 (pos 400) ≡ record { number = 0; standing = 3; flagged = 1; total = pos 400 }
  pub report_zeros : refused_report 3 ≡ record { number = 3; standing = 0; flagged = 0; total = pos 0 }
  -- "Kind 1, meter"; "Kinds 2 standing, 3 withdrawn, 4 held"; 02, 2: "a carry, kind 5"; 02, 4: "Kind 7 stands where kind 1 would"
  pub meter_kind_1 : kind_meter ≡ 1
  pub standing_kind_2 : kind_standing ≡ 2
  pub withdrawn_kind_3 : kind_withdrawn ≡ 3
  pub held_kind_4 : kind_held ≡ 4
  pub carry_kind_5 : kind_carry ≡ 5
  pub pseudo_kind_7 : kind_pseudo ≡ 7
  pub standing_kinds : bytes (λ kind. is_standing (entry_of kind)) ≡ 2 ∷ []
  pub withdrawn_kinds : bytes (λ kind. is_withdrawn (entry_of kind)) ≡ 3 ∷ []
  pub held_kinds : bytes (λ kind. is_held (entry_of kind)) ≡ 4 ∷ []
  pub kind_of_ordinary : meter_kind Ordinary ≡ 1
  pub kind_of_pseudo : meter_kind Pseudo ≡ 7
  pub profile_of_1 : profile_of 1 ≡ Ordinary
  pub profile_of_7 : profile_of 7 ≡ Pseudo
  -- "indicator (1 byte: 0 not set, 1 false, 2 true)"
  pub not_set_0 : indicator_not_set ≡ 0
  pub false_1 : indicator_false ≡ 1
  pub true_2 : indicator_true ≡ 2
  -- "type (ASCII letter)": "I initial, O opening, F final, C cyclic, U customer, R AMR, T transfer, S estimated transfer, X disconnection,
  -- Y reconnection, E end"
  pub letter_i_row : letter_i ≡ 73
  pub letter_o_row : letter_o ≡ 79
  pub letter_f_row : letter_f ≡ 70
  pub letter_c_row : letter_c ≡ 67
  pub letter_u_row : letter_u ≡ 85
  pub letter_r_row : letter_r ≡ 82
  pub letter_t_row : letter_t ≡ 84
  pub letter_s_row : letter_s ≡ 83
  pub letter_x_row : letter_x ≡ 88
  pub letter_y_row : letter_y ≡ 89
  pub letter_e_row : letter_e ≡ 69
  -- the eleven types, and no byte besides
  pub known : bytes is_known ≡ letter_c ∷ letter_e ∷ letter_f ∷ letter_i ∷ letter_o ∷ letter_r ∷ letter_s ∷ letter_t ∷ letter_u ∷ letter_x ∷ letter_y ∷ []
  -- "type I or O"
  pub opening : bytes is_opening ≡ letter_i ∷ letter_o ∷ []
  -- "at most one is F"
  pub final : bytes is_final ≡ letter_f ∷ []
  -- "of type C U R T S F X or E"
  pub holdable : bytes is_holdable ≡ letter_c ∷ letter_e ∷ letter_f ∷ letter_r ∷ letter_s ∷ letter_t ∷ letter_u ∷ letter_x ∷ []
  -- "I, O and Y have no volume check."
  pub unchecked : bytes is_unchecked ≡ letter_i ∷ letter_o ∷ letter_y ∷ []
  -- 02, 4: "types I and F only"
  pub ordinary_takes : bytes (takes Ordinary) ≡ bytes is_known
  pub pseudo_takes : bytes (takes Pseudo) ≡ letter_f ∷ letter_i ∷ []
