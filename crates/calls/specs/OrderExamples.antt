-- 01, Calls: "Submit checks 2 to 8; then, if a read of that day stands, 1, 9 (submitted type I or F), 10, 11; then 12, 13, 9 (I or O with a read
-- standing, F with an F standing), 14 to 21." Examples of this order: each read is refused by the first of two checks that it breaks. Where no
-- row stands, as for 8 and 1 or for 12 and 13, no sound journal has a read that breaks both.
use Rattle.std.specs.Prelude.{◌≡◌, [], ◌∷◌, replicate}
use Rattle.terms.specs.Entry.{indicator_not_set, indicator_false, indicator_true}
use Rattle.terms.specs.Letter.{letter_i, letter_f, letter_c, letter_u}
use Rattle.terms.specs.Number.{repeat, missing, content, date, withdrawn_read, read_at, read_eh, read_bf, back_dated, read_df, indicator_on_opening, no_original, full, read_ee, read_ef, low, high}
use Rattle.journal.specs.Journal.{Journal}
use Rattle.calls.specs.CheckExamples.{stood, gone, journal, empty, opening, alone, emptied, running, closed, gone_and_one, sent_on, sent, sent_again, number_in}

-- fifty entries: one stands, and none does
abbrev pub filled : Journal
filled = journal (gone_and_one 49)

abbrev pub filled_and_emptied : Journal
filled_and_emptied = journal (replicate 50 (gone letter_i 20 9200))

-- 750 in ten days
abbrev pub steep : Journal
steep = journal (stood letter_c 30 9950 indicator_not_set ∷ opening ∷ [])

-- THE CLAIM: one row for each example
pub record OrderExamplesHold : Type 0 where
  -- "Submit checks 2 to 8": 5, 6, 7 and 8, and these before any of the others. A missing value is no value of the dials, so 5 is before 6
  -- wherever it is answered. 29, which is between 6 and 7, has its rows among those of a profile.
  pub missing_before_content : number_in running (sent 90 80 4294967295 indicator_not_set) ≡ missing
  pub content_before_date : number_in running (sent 90 0 9800 indicator_not_set) ≡ content
  pub date_before_withdrawn : number_in running (sent_on 69 0 letter_c 70 9650 indicator_not_set) ≡ date
  pub date_before_repeat : number_in running (sent_on 59 0 letter_c 60 9600 indicator_false) ≡ date
  pub withdrawn_before_at : number_in running (sent letter_i 60 9601 indicator_false) ≡ withdrawn_read
  pub withdrawn_before_eh : number_in running (sent letter_c 60 9601 indicator_not_set) ≡ withdrawn_read
  pub withdrawn_before_bf : number_in running (sent letter_c 60 9601 indicator_false) ≡ withdrawn_read
  pub withdrawn_before_back_dated : number_in running (sent letter_c 50 9500 indicator_not_set) ≡ withdrawn_read
  pub withdrawn_before_df : number_in emptied (sent letter_c 20 9200 indicator_not_set) ≡ withdrawn_read
  pub withdrawn_before_no_original : number_in running (sent_again letter_c 70 9650 indicator_not_set) ≡ withdrawn_read
  -- "then, if a read of that day stands, 1, 9 (submitted type I or F), 10, 11"
  pub repeat_before_at : number_in closed (sent letter_f 40 9400 indicator_not_set) ≡ repeat
  pub repeat_before_at_initial : number_in alone (sent letter_i 20 9200 indicator_not_set) ≡ repeat
  pub at_before_eh : number_in running (sent letter_i 60 9600 indicator_not_set) ≡ read_at
  pub at_before_bf : number_in running (sent letter_f 60 9600 indicator_false) ≡ read_at
  pub eh_before_bf : number_in running (sent letter_u 60 9599 indicator_not_set) ≡ read_eh
  -- and these before 12 to 21
  pub repeat_before_back_dated : number_in running (sent letter_c 40 9400 indicator_not_set) ≡ repeat
  pub at_before_back_dated : number_in running (sent letter_f 40 9401 indicator_not_set) ≡ read_at
  pub eh_before_back_dated : number_in running (sent letter_c 40 9400 indicator_false) ≡ read_eh
  pub bf_before_back_dated : number_in running (sent letter_c 40 9401 indicator_not_set) ≡ read_bf
  pub bf_before_no_original : number_in running (sent_again letter_u 60 9600 indicator_false) ≡ read_bf
  pub bf_before_full : number_in filled (sent letter_c 20 9200 indicator_not_set) ≡ read_bf
  pub eh_before_ee : number_in running (sent letter_c 60 9600 indicator_true) ≡ read_eh
  -- "then 12, 13, 9 (I or O with a read standing, F with an F standing), 14 to 21"
  pub back_dated_before_at : number_in closed (sent letter_f 59 9599 indicator_not_set) ≡ back_dated
  pub back_dated_before_at_initial : number_in running (sent letter_i 59 9599 indicator_not_set) ≡ back_dated
  pub back_dated_before_no_original : number_in running (sent_again letter_c 59 9599 indicator_not_set) ≡ back_dated
  pub back_dated_before_full : number_in filled (sent letter_c 19 9199 indicator_not_set) ≡ back_dated
  pub df_before_no_original : number_in empty (sent_again letter_c 40 9400 indicator_not_set) ≡ read_df
  pub df_before_full : number_in filled_and_emptied (sent letter_c 40 9400 indicator_not_set) ≡ read_df
  pub at_before_indicator : number_in alone (sent letter_i 40 9400 indicator_false) ≡ read_at
  pub at_before_no_original : number_in alone (sent_again letter_i 40 9400 indicator_not_set) ≡ read_at
  pub at_before_full : number_in filled (sent letter_i 40 9400 indicator_not_set) ≡ read_at
  pub indicator_before_no_original : number_in empty (sent_again letter_i 40 9400 indicator_false) ≡ indicator_on_opening
  pub indicator_before_full : number_in filled_and_emptied (sent letter_i 40 9400 indicator_false) ≡ indicator_on_opening
  pub indicator_before_ee : number_in empty (sent letter_i 40 9400 indicator_true) ≡ indicator_on_opening
  pub no_original_before_full : number_in filled (sent_again letter_c 40 9400 indicator_not_set) ≡ no_original
  pub no_original_before_ee : number_in running (sent_again letter_c 80 9800 indicator_true) ≡ no_original
  pub full_before_ee : number_in filled (sent letter_c 40 9400 indicator_true) ≡ full
  pub full_before_ef : number_in filled (sent letter_c 40 100 indicator_not_set) ≡ full
  pub ee_before_low : number_in running (sent letter_c 80 9600 indicator_true) ≡ read_ee
  pub ee_before_high : number_in running (sent letter_c 61 9999 indicator_true) ≡ read_ee
  pub ef_before_low : number_in running (sent letter_c 80 100 indicator_not_set) ≡ read_ef
  -- 20 and then 19 with a capacity that is passed too: 399 in a day, and 14, where 13 a day is the most
  pub high_before_capacity : number_in running (sent letter_c 61 9999 indicator_not_set) ≡ high
  pub low_before_capacity : number_in steep (sent letter_c 31 9964 indicator_not_set) ≡ low
