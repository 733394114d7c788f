-- 01, Detection and Volume: examples that fix the settings, the marks of test (1), what an indicator makes of a detection, and which reads have
-- which volume check. Where the other tests hold, test (1) does, so its marks have rows of their own.
use Rattle.std.specs.Prelude.{◌≡◌, Bool, true, false, List, [], ◌∷◌, ℕ, ◌-◌}
use Rattle.terms.specs.declared.entry.Entry.{Entry}
use Rattle.terms.specs.declared.submission.Submission.{Submission}
use Rattle.terms.specs.Entry.{recent_of, kind_standing, indicator_not_set, indicator_false, indicator_true}
use Rattle.terms.specs.Letter.{letter_i, letter_o, letter_c, letter_x, letter_y}
use Rattle.rules.specs.declared.detection.Detected.{Detected}
use Rattle.rules.specs.declared.detection.Detected.TheVariants.{NotRollover, Rollover, Indeterminate}
use Rattle.rules.specs.Settings.{step_back, high_mark, low_mark, least_percent, most_percent, fraction, whole_percent, low_percent, high_percent}
use Rattle.rules.specs.Detection.{is_near_turn, detected}
use Rattle.rules.specs.Indicator.{indicated, indicated_number, indicated_flag}
use Rattle.rules.specs.Volume.{volume_number}

-- the settings in the paper's order, for a number of dials
abbrev pub settings : ℕ → List ℕ
settings dials = step_back dials ∷ high_mark ∷ low_mark ∷ least_percent ∷ most_percent ∷ fraction ∷ []

-- a standing read, and a submitted one ten days after day 181
abbrev pub stood : ℕ → ℕ → ℕ → Entry
stood day value flag =
    record { kind = kind_standing; day = day; value = value; letter = letter_c; indicator = indicator_not_set; flag = flag }

abbrev pub submitted : ℕ → ℕ → ℕ → Submission
submitted value letter reread =
    record { submitted = 191; day = 191; value = value; letter = letter; indicator = indicator_not_set; reread = reread }

-- test (1) of R0 and R1, on a number of dials
abbrev pub near_turn : ℕ → ℕ → ℕ → Bool
near_turn dials r0 r1 = is_near_turn dials (submitted r1 letter_c 0) (stood 181 r0 0)

-- the detection of R1 after R0 and two reads before it, 600 apart, on four dials
abbrev pub detected_after : ℕ → ℕ → Detected
detected_after r0 r1 =
    detected 4 (submitted r1 letter_c 0) (recent_of (stood 181 r0 0 ∷ stood 171 (r0 - 600) 0 ∷ stood 161 (r0 - 1200) 0 ∷ []))

-- the number and the flag for a detection with an indicator
pub record Word : Type 0 where
  pub number : ℕ
  pub flag : ℕ

abbrev pub word : ℕ → ℕ → Word
word number flag = record { number = number; flag = flag }

abbrev pub word_for : Detected → ℕ → Word
word_for found indicator = word (indicated_number (indicated found indicator)) (indicated_flag (indicated found indicator))

-- the volume check of a read, on four dials: after 9900 and, over a turn, 100, so that p is 200 in ten days, with the largest capacity
abbrev pub over_a_turn : Submission → ℕ
over_a_turn s = volume_number 4 4294967295 s 0 (recent_of (stood 181 100 1 ∷ stood 171 9900 0 ∷ []))

-- after 9700 and 9900, so that p is 200 too, taken with a flag
abbrev pub with_flag : ℕ → Submission → ℕ
with_flag flag s = volume_number 4 4294967295 s flag (recent_of (stood 181 9900 0 ∷ stood 171 9700 0 ∷ []))

-- after 1000 alone, with a capacity of 366 in a leap year: below 10 in ten days
abbrev pub to_capacity : Submission → ℕ
to_capacity s = volume_number 4 366 s 0 (recent_of (stood 181 1000 0 ∷ []))

-- THE CLAIM: one row for each example
pub record RuleExamplesHold : Type 0 where
  -- "The detection settings (1000, 90, 10, 20, 200, 10) are constants that belong to one named set."
  pub settings_of_four : settings 4 ≡ 1000 ∷ 90 ∷ 10 ∷ 20 ∷ 200 ∷ 10 ∷ []
  pub settings_of_nine : settings 9 ≡ settings 4
  -- 02, 5: "The limit is −100 for three dials and −1000 otherwise."
  pub settings_of_three : settings 3 ≡ 100 ∷ 90 ∷ 10 ∷ 20 ∷ 200 ∷ 10 ∷ []
  -- 01, Volume: "the 20% and 200% limits", of 100
  pub volume_limits : low_percent ∷ high_percent ∷ whole_percent ∷ [] ≡ 20 ∷ 200 ∷ 100 ∷ []
  -- "(1) R0 plain, R0 ≥ 90 × 10^(n−2), R1 < 10 × 10^(n−2)."
  pub at_the_high_mark : near_turn 4 9000 999 ≡ true
  pub below_the_high_mark : near_turn 4 8999 999 ≡ false
  pub at_the_low_mark : near_turn 4 9000 1000 ≡ false
  pub not_plain : is_near_turn 4 (submitted 999 letter_c 0) (stood 181 9000 1) ≡ false
  pub three_at_the_high_mark : near_turn 3 900 99 ≡ true
  pub three_below_the_high_mark : near_turn 3 899 99 ≡ false
  pub three_at_the_low_mark : near_turn 3 900 100 ≡ false
  pub nine_at_the_high_mark : near_turn 9 900000000 99999999 ≡ true
  pub nine_below_the_high_mark : near_turn 9 899999999 99999999 ≡ false
  pub nine_at_the_low_mark : near_turn 9 900000000 100000000 ≡ false
  -- the lowest R0 and the highest R1 of a turn, and their neighbours, which are too far apart
  pub lowest_before : detected_after 9001 0 ≡ Rollover
  pub too_low_before : detected_after 9000 0 ≡ Indeterminate
  pub highest_after : detected_after 9999 998 ≡ Rollover
  pub too_high_after : detected_after 9999 999 ≡ Indeterminate
  -- "Rollover with false, or Not a Rollover with true, is 17. Indeterminate with not set is 18."
  pub rollover_with_false : word_for Rollover indicator_false ≡ word 17 0
  pub not_a_rollover_with_true : word_for NotRollover indicator_true ≡ word 17 0
  pub indeterminate_with_not_set : word_for Indeterminate indicator_not_set ≡ word 18 0
  -- "Otherwise the flag is 1 for Rollover, 0 for Not a Rollover, and the indicator's word for Indeterminate."
  pub rollover_with_not_set : word_for Rollover indicator_not_set ≡ word 0 1
  pub rollover_with_true : word_for Rollover indicator_true ≡ word 0 1
  pub not_a_rollover_with_not_set : word_for NotRollover indicator_not_set ≡ word 0 0
  pub not_a_rollover_with_false : word_for NotRollover indicator_false ≡ word 0 0
  pub indeterminate_with_true : word_for Indeterminate indicator_true ≡ word 0 1
  pub indeterminate_with_false : word_for Indeterminate indicator_false ≡ word 0 0
  -- "p is the last standing read's advance over the one before, its flag counted": 40 is not low against 200, and 39 is
  pub forty_of_p : over_a_turn (submitted 140 letter_c 0) ≡ 0
  pub below_forty : over_a_turn (submitted 139 letter_c 0) ≡ 19
  -- "R1 − R0 + flag × 10^n": 200 with the flag, and −9800 without it
  pub flagged_advance : with_flag 1 (submitted 100 letter_c 0) ≡ 0
  pub plain_advance_row : with_flag 0 (submitted 100 letter_c 0) ≡ 19
  -- "Threshold, not for a re-read", low or high; the capacity is for a re-read too
  pub low_reread : over_a_turn (submitted 139 letter_c 1) ≡ 0
  pub high_read : over_a_turn (submitted 501 letter_c 0) ≡ 20
  pub high_reread : over_a_turn (submitted 501 letter_c 1) ≡ 0
  pub within_capacity : to_capacity (submitted 1009 letter_c 1) ≡ 0
  pub over_capacity_row : to_capacity (submitted 1010 letter_c 0) ≡ 21
  pub over_capacity_reread : to_capacity (submitted 1010 letter_c 1) ≡ 21
  -- "I, O and Y have no volume check.": neither of the two
  pub reconnection_low : over_a_turn (submitted 139 letter_y 0) ≡ 0
  pub reconnection_over_capacity : to_capacity (submitted 1010 letter_y 0) ≡ 0
  pub initial_over_capacity : to_capacity (submitted 1010 letter_i 0) ≡ 0
  pub opening_over_capacity : to_capacity (submitted 1010 letter_o 0) ≡ 0
  pub disconnection_over_capacity : to_capacity (submitted 1010 letter_x 0) ≡ 21
