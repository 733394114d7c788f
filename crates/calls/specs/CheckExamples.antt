-- 01, Calls, the table of numbers: for each check of a submission a read that it refuses, and for each half of its condition a neighbour that
-- differs in that half alone and that it lets pass. A row is over the whole list of checks, or over a group of it. A read that is to be
-- accepted is of type Y where its type does not matter: Y has no volume check, and volumes have their own rows among the pairs at an edge.
use Rattle.std.specs.Prelude.{◌≡◌, Bool, true, false, List, [], ◌∷◌, ◌++◌, ℕ, replicate}
use Rattle.terms.specs.declared.entry.Entry.{Entry}
use Rattle.terms.specs.declared.profile.Profile.TheVariants.{Ordinary}
use Rattle.terms.specs.declared.submission.Submission.{Submission}
use Rattle.terms.specs.Entry.{kind_standing, kind_withdrawn, kind_held, indicator_not_set, indicator_false, indicator_true}
use Rattle.terms.specs.Letter.{letter_i, letter_o, letter_f, letter_c, letter_u, letter_y}
use Rattle.terms.specs.Number.{accepted, repeat, missing, content, date, withdrawn_read, read_at, read_eh, read_bf, back_dated, read_df, indicator_on_opening, no_original, full, read_ee, read_ef, low, high}
use Rattle.terms.specs.Rule.{first_broken}
use Rattle.register.specs.declared.head.Carry.{Carry}
use Rattle.register.specs.declared.head.Head.{Head}
use Rattle.register.specs.Head.{no_carry}
use Rattle.journal.specs.Journal.{Journal}
use Rattle.calls.specs.Checks.{same_day_rules, order_rules, submit_rules, taken_flag}

-- ---- journals, the newest entry first
abbrev pub entry_of : ℕ → ℕ → ℕ → ℕ → ℕ → Entry
entry_of kind letter day value indicator =
    record { kind = kind; day = day; value = value; letter = letter; indicator = indicator; flag = 0 }

abbrev pub stood : ℕ → ℕ → ℕ → ℕ → Entry
stood letter day value indicator = entry_of kind_standing letter day value indicator

abbrev pub gone : ℕ → ℕ → ℕ → Entry
gone letter day value = entry_of kind_withdrawn letter day value indicator_not_set

abbrev pub held : Entry
held = entry_of kind_held letter_c 75 9999 indicator_not_set

abbrev pub meter_with : Bool → Carry → Head
meter_with carried carry =
    record { profile = Ordinary; dials = 4; capacity = 5000; carried = carried; carry = carry }

abbrev pub journal : List Entry → Journal
journal entries = record { head = meter_with false no_carry; entries = entries }

-- a folded read is in the carry
abbrev pub carried : List Entry → Journal
carried entries =
    record { head = meter_with true (record { first = 9000; folded = 1; flagged = 0 }); entries = entries }

abbrev pub empty : Journal
empty = journal []

abbrev pub opening : Entry
opening = stood letter_i 20 9200 indicator_not_set

abbrev pub alone : Journal
alone = journal (opening ∷ [])

-- the opening read was withdrawn
abbrev pub emptied : Journal
emptied = journal (gone letter_i 20 9200 ∷ [])

-- three reads stand, 200 in each twenty days; three were withdrawn, one of them on a day that stands and one on a day before the last; and one
-- is held, which was high
abbrev pub running : Journal
running =
    journal
    (held
    ∷ gone letter_c 70 9650
    ∷ stood letter_c 60 9600 indicator_false
    ∷ gone letter_c 60 9601
    ∷ gone letter_c 50 9500
    ∷ stood letter_c 40 9400 indicator_not_set
    ∷ opening
    ∷ [])

-- the same days, near the turn of the dials
abbrev pub near_turn : Journal
near_turn =
    journal
    (stood letter_c 60 9800 indicator_not_set
    ∷ stood letter_c 40 9600 indicator_not_set
    ∷ stood letter_i 20 9400 indicator_not_set
    ∷ [])

-- an F stands, and not as the last; and one where it was withdrawn
abbrev pub closed : Journal
closed =
    journal (stood letter_c 60 9600 indicator_not_set ∷ stood letter_f 40 9400 indicator_not_set ∷ opening ∷ [])

abbrev pub reopened : Journal
reopened = journal (stood letter_c 60 9600 indicator_not_set ∷ gone letter_f 40 9400 ∷ opening ∷ [])

-- so many withdrawn entries and one that stands
abbrev pub gone_and_one : ℕ → List Entry
gone_and_one k = replicate k (gone letter_c 30 1) ++ (opening ∷ [])

-- ---- submissions
abbrev pub sent_on : ℕ → ℕ → ℕ → ℕ → ℕ → ℕ → Submission
sent_on submitted reread letter day value indicator =
    record {
      submitted = submitted;
      day = day;
      value = value;
      letter = letter;
      indicator = indicator;
      reread = reread;
    }

abbrev pub sent : ℕ → ℕ → ℕ → ℕ → Submission
sent letter day value indicator = sent_on 100 0 letter day value indicator

-- as a re-read
abbrev pub sent_again : ℕ → ℕ → ℕ → ℕ → Submission
sent_again letter day value indicator = sent_on 100 1 letter day value indicator

-- the answer's number, and that of the checks of a group alone
abbrev pub number_in : Journal → Submission → ℕ
number_in j s = first_broken (submit_rules s j)

abbrev pub same_day_number : Journal → Submission → ℕ
same_day_number j s = first_broken (same_day_rules s j)

abbrev pub order_number : Journal → Submission → ℕ
order_number j s = first_broken (order_rules s j)

-- THE CLAIM: one row for each example
pub record CheckExamplesHold : Type 0 where
  -- 0: "no other applies"
  pub taken : number_in running (sent letter_y 80 9800 indicator_not_set) ≡ accepted
  -- 5: "value 4,294,967,295, the mark for unpopulated"
  pub mark_missing : number_in running (sent letter_y 80 4294967295 indicator_not_set) ≡ missing
  pub below_the_mark : number_in running (sent letter_y 80 4294967294 indicator_not_set) ≡ content
  -- 6: "unknown type, indicator above 2, re-read above 1, value ≥ 10^n"; true is 17 here, and a re-read of no held read 15
  pub type_unknown : number_in running (sent 90 80 9800 indicator_not_set) ≡ content
  pub indicator_three : number_in running (sent letter_y 80 9800 3) ≡ content
  pub indicator_two : number_in running (sent letter_y 80 9800 2) ≡ read_ee
  pub reread_two : number_in running (sent_on 100 2 letter_y 80 9800 indicator_not_set) ≡ content
  pub reread_one : number_in running (sent_on 100 1 letter_y 80 9800 indicator_not_set) ≡ no_original
  pub past_the_dials : number_in running (sent letter_y 80 10000 indicator_not_set) ≡ content
  pub on_the_dials : number_in running (sent letter_y 80 9999 indicator_not_set) ≡ accepted
  -- 7: "read day 0 or after the submission day"
  pub day_zero : number_in empty (sent letter_i 0 9200 indicator_not_set) ≡ date
  pub day_one : number_in empty (sent letter_i 1 9200 indicator_not_set) ≡ accepted
  pub day_to_come : number_in running (sent_on 79 0 letter_y 80 9800 indicator_not_set) ≡ date
  pub sent_on_its_day : number_in running (sent_on 80 0 letter_y 80 9800 indicator_not_set) ≡ accepted
  -- 8: "a withdrawn entry has this day and value", whatever else is sent, and not a held one
  pub withdrawn_again : number_in running (sent letter_c 70 9650 indicator_not_set) ≡ withdrawn_read
  pub withdrawn_otherwise : number_in running (sent letter_y 70 9650 indicator_false) ≡ withdrawn_read
  pub withdrawn_day_alone : number_in running (sent letter_y 70 9651 indicator_not_set) ≡ accepted
  pub withdrawn_value_alone : number_in running (sent letter_y 80 9650 indicator_not_set) ≡ accepted
  pub held_not_withdrawn : number_in running (sent letter_y 75 9999 indicator_not_set) ≡ accepted
  -- 1: "a standing read has the same day, type, value and indicator"
  pub same_again : number_in running (sent letter_c 60 9600 indicator_false) ≡ repeat
  pub older_again : number_in running (sent letter_c 40 9400 indicator_not_set) ≡ repeat
  pub again_as_reread : number_in running (sent_again letter_c 60 9600 indicator_false) ≡ repeat
  pub repeat_other_type : number_in running (sent letter_u 60 9600 indicator_false) ≡ read_bf
  pub repeat_other_value : number_in running (sent letter_c 60 9599 indicator_false) ≡ read_bf
  pub repeat_other_indicator : number_in running (sent letter_c 60 9600 indicator_true) ≡ read_eh
  pub repeat_other_day : same_day_number running (sent letter_c 61 9600 indicator_false) ≡ accepted
  -- 9: "if a read of that day stands, .. 9 (submitted type I or F)"
  pub initial_on_day : number_in running (sent letter_i 60 9599 indicator_false) ≡ read_at
  pub final_on_day : number_in running (sent letter_f 60 9599 indicator_false) ≡ read_at
  pub opening_on_day : number_in running (sent letter_o 60 9599 indicator_false) ≡ read_bf
  pub final_on_another : same_day_number running (sent letter_f 61 9599 indicator_false) ≡ accepted
  -- 10: "standing read of that day, other indicator"
  pub other_indicator : number_in running (sent letter_c 60 9600 indicator_not_set) ≡ read_eh
  pub older_other_indicator : number_in running (sent letter_c 40 9400 indicator_false) ≡ read_eh
  pub other_indicator_and_day : same_day_number running (sent letter_c 61 9600 indicator_not_set) ≡ accepted
  -- 11: "standing read of that day, else different"; a read of a withdrawn or a held day is none
  pub older_different : number_in running (sent letter_u 40 9401 indicator_not_set) ≡ read_bf
  pub withdrawn_day_not : same_day_number running (sent letter_c 70 9651 indicator_not_set) ≡ accepted
  pub held_day_not : same_day_number running (sent letter_c 75 9998 indicator_not_set) ≡ accepted
  -- 12: "earlier than the last standing read"; its day itself is not, nor any day where none stands
  pub earlier : number_in running (sent letter_y 59 9599 indicator_not_set) ≡ back_dated
  pub before_all : number_in running (sent letter_y 1 9100 indicator_not_set) ≡ back_dated
  pub later : number_in running (sent letter_y 61 9601 indicator_not_set) ≡ accepted
  pub on_the_last_day : order_number running (sent letter_y 60 9610 indicator_not_set) ≡ accepted
  pub before_withdrawn : number_in emptied (sent letter_i 19 9200 indicator_not_set) ≡ accepted
  -- 13: "none stands and type not I or O"
  pub cyclic_first : number_in empty (sent letter_c 20 9200 indicator_not_set) ≡ read_df
  pub final_first : number_in empty (sent letter_f 20 9200 indicator_not_set) ≡ read_df
  pub cyclic_after_withdrawn : number_in emptied (sent letter_c 40 9400 indicator_not_set) ≡ read_df
  pub initial_opens : number_in empty (sent letter_i 20 9200 indicator_not_set) ≡ accepted
  pub opening_opens : number_in empty (sent letter_o 20 9200 indicator_not_set) ≡ accepted
  pub cyclic_second : order_number alone (sent letter_c 40 9400 indicator_not_set) ≡ accepted
  -- 9: "I or O with a read standing, F with an F standing"
  pub initial_second : number_in alone (sent letter_i 40 9400 indicator_not_set) ≡ read_at
  pub opening_second : number_in alone (sent letter_o 40 9400 indicator_not_set) ≡ read_at
  pub initial_after_withdrawn : number_in emptied (sent letter_i 40 9400 indicator_not_set) ≡ accepted
  pub opening_after_withdrawn : number_in emptied (sent letter_o 40 9400 indicator_not_set) ≡ accepted
  pub second_final : number_in closed (sent letter_f 80 9800 indicator_not_set) ≡ read_at
  pub first_final : order_number running (sent letter_f 80 9800 indicator_not_set) ≡ accepted
  pub final_after_withdrawn : order_number reopened (sent letter_f 80 9800 indicator_not_set) ≡ accepted
  pub other_after_final : number_in closed (sent letter_y 80 9800 indicator_not_set) ≡ accepted
  -- 14: "I or O with indicator 1 or 2"
  pub initial_false : number_in empty (sent letter_i 20 9200 1) ≡ indicator_on_opening
  pub initial_true : number_in empty (sent letter_i 20 9200 2) ≡ indicator_on_opening
  pub opening_false : number_in empty (sent letter_o 20 9200 1) ≡ indicator_on_opening
  pub opening_true : number_in empty (sent letter_o 20 9200 2) ≡ indicator_on_opening
  pub other_false : number_in running (sent letter_y 80 9800 1) ≡ accepted
  -- 15: "re-read 1, and no held read equal in day, value, type, indicator"
  pub original_held : order_number running (sent_again letter_c 75 9999 indicator_not_set) ≡ accepted
  pub none_held : number_in closed (sent_again letter_c 75 9999 indicator_not_set) ≡ no_original
  pub held_other_day : number_in running (sent_again letter_c 76 9999 indicator_not_set) ≡ no_original
  pub held_other_value : number_in running (sent_again letter_c 75 9998 indicator_not_set) ≡ no_original
  pub held_other_type : number_in running (sent_again letter_u 75 9999 indicator_not_set) ≡ no_original
  pub held_other_indicator : number_in running (sent_again letter_c 75 9999 indicator_false) ≡ no_original
  pub no_reread : number_in closed (sent letter_y 75 9999 indicator_not_set) ≡ accepted
  -- 16: "standing and withdrawn entries number 50", a held one not among them; 02, 2: "16 counts to 49" after a carry
  pub fifty : number_in (journal (gone_and_one 49)) (sent letter_y 80 9400 indicator_not_set) ≡ full
  pub forty_nine : number_in (journal (gone_and_one 48)) (sent letter_y 80 9400 indicator_not_set) ≡ accepted
  pub forty_nine_and_held : number_in (journal (held ∷ gone_and_one 48)) (sent letter_y 80 9400 indicator_not_set) ≡ accepted
  pub forty_nine_carried : number_in (carried (gone_and_one 48)) (sent letter_y 80 9400 indicator_not_set) ≡ full
  pub forty_eight_carried : number_in (carried (gone_and_one 47)) (sent letter_y 80 9400 indicator_not_set) ≡ accepted
  pub forty_eight_and_held : number_in (carried (held ∷ gone_and_one 47)) (sent letter_y 80 9400 indicator_not_set) ≡ accepted
  -- 17: "Rollover with false, or Not a Rollover with true"
  pub rollover_false : number_in near_turn (sent letter_y 80 50 indicator_false) ≡ read_ee
  pub rollover_true : number_in near_turn (sent letter_y 80 50 indicator_true) ≡ accepted
  pub rollover_not_set : number_in near_turn (sent letter_y 80 50 indicator_not_set) ≡ accepted
  pub plain_true : number_in running (sent letter_y 80 9800 indicator_true) ≡ read_ee
  pub plain_false : number_in running (sent letter_y 80 9800 indicator_false) ≡ accepted
  -- 18: "Indeterminate with not set"; taken with false it is a step back, which is low, and with true a turn, which is high here
  pub unclear_not_set : number_in running (sent letter_c 80 100 indicator_not_set) ≡ read_ef
  pub unclear_false : number_in running (sent letter_c 80 100 indicator_false) ≡ low
  pub unclear_true : number_in running (sent letter_c 80 100 indicator_true) ≡ high
  -- "Otherwise the flag is 1 for Rollover, 0 for Not a Rollover, and the indicator's word for Indeterminate."
  pub flag_of_rollover : taken_flag (sent letter_c 80 50 indicator_not_set) near_turn ≡ 1
  pub flag_of_plain : taken_flag (sent letter_c 80 9800 indicator_false) running ≡ 0
  pub flag_of_false : taken_flag (sent letter_c 80 100 indicator_false) running ≡ 0
  pub flag_of_true : taken_flag (sent letter_c 80 100 indicator_true) running ≡ 1
