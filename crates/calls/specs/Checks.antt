-- 01, Calls: the conditions of the table of numbers, and the order of checks of each call.
use Rattle.std.specs.Prelude.{Bool, true, false, not, ◌&&◌, ◌||◌, List, [], ◌∷◌, ◌++◌, ℕ, eqb, leb, ltb, length, Option, Some, None, Result}
use Rattle.arithmetic.specs.Powers.{ten_to}
use Rattle.terms.specs.declared.entry.Entry.{Entry}
use Rattle.terms.specs.declared.entry.Recent.{Recent}
use Rattle.terms.specs.declared.profile.Profile.{Profile}
use Rattle.terms.specs.declared.refusal.Refusal.{Refusal}
use Rattle.terms.specs.declared.submission.Submission.{Submission}
use Rattle.terms.specs.Letter.{letter_i, is_known, is_opening, is_final}
use Rattle.terms.specs.Entry.{indicator_not_set, indicator_true, slot_at, recent_of}
use Rattle.terms.specs.Number.{repeat, missing, content, other_type, date, withdrawn_read, read_at, read_eh, read_bf, back_dated, read_df, indicator_on_opening, no_original, full, read_ee, read_ef, low, high, over_capacity, not_standing, not_last, enrolled, plate, no_fold, oldest_kept}
use Rattle.terms.specs.Profile.{takes}
use Rattle.terms.specs.Rule.{Rule, rule}
use Rattle.rules.specs.Detection.{detected}
use Rattle.rules.specs.Indicator.{indicated, indicated_number, indicated_flag}
use Rattle.rules.specs.Volume.{is_low_volume, is_high_volume, is_over_capacity}
use Rattle.register.specs.Area.{all_zero}
use Rattle.register.specs.declared.head.Head.{Head}
use Rattle.register.specs.Head.{most_entries}
use Rattle.journal.specs.Journal.{Journal, journal_of, standing, withdrawn, kept, held_of, is_there, on_day, oldest_of}
use Rattle.journal.specs.Numbers.{area_rules}
use Rattle.journal.specs.Sound.{any, exists, has_read, is_final_read, is_plate}

-- ---- 5 to 8, and 29: what is submitted
-- "value 4,294,967,295, the mark for unpopulated"
abbrev pub unpopulated : ℕ
unpopulated = 4294967295

unfoldable pub is_missing : Submission → Bool
is_missing s = eqb s.value unpopulated

-- "unknown type, indicator above 2, re-read above 1, value ≥ 10^n"
unfoldable pub is_bad_content : ℕ → Submission → Bool
is_bad_content n s =
    not (is_known s.letter)
    || (ltb indicator_true s.indicator || (ltb 1 s.reread || leb (ten_to n) s.value))

-- 02, 4: 29, "another type on a pseudo meter"; an ordinary one takes every type that 6 lets pass
unfoldable pub is_other_type : Profile → Submission → Bool
is_other_type profile s = not (takes profile s.letter)

-- "read day 0 or after the submission day"
unfoldable pub is_bad_date : Submission → Bool
is_bad_date s = eqb s.day 0 || ltb s.submitted s.day

-- "a withdrawn entry has this day and value"
unfoldable pub is_withdrawn_read : Submission → List Entry → Bool
is_withdrawn_read s es = any (has_read s.day s.value) (withdrawn es)

-- ---- 1, 9, 10, 11: a read of that day stands, and then 11 at the latest
-- "a standing read has the same day, type, value and indicator"
unfoldable pub is_repeat : Submission → Option Entry → Bool
is_repeat s (Some e) =
    eqb e.letter s.letter && (eqb e.value s.value && eqb e.indicator s.indicator)
is_repeat s None = false

-- "9 (submitted type I or F)"
unfoldable pub is_at_on_day : Submission → Option Entry → Bool
is_at_on_day s same_day = is_there same_day && (eqb s.letter letter_i || is_final s.letter)

-- "standing read of that day, other indicator"
unfoldable pub is_other_indicator : Submission → Option Entry → Bool
is_other_indicator s (Some e) = not (eqb e.indicator s.indicator)
is_other_indicator s None = false

-- ---- 12 to 16
-- "earlier than the last standing read"
unfoldable pub is_back_dated : Submission → Option Entry → Bool
is_back_dated s (Some r0) = ltb s.day r0.day
is_back_dated s None = false

-- "none stands and type not I or O"
unfoldable pub is_unopened : Submission → List Entry → Bool
is_unopened s ss = not (exists ss) && not (is_opening s.letter)

-- "9 (I or O with a read standing, F with an F standing)"
unfoldable pub is_at_later : Submission → List Entry → Bool
is_at_later s ss = is_opening s.letter && exists ss || is_final s.letter && any is_final_read ss

-- "I or O with indicator 1 or 2"
unfoldable pub is_opening_indicated : Submission → Bool
is_opening_indicated s = is_opening s.letter && not (eqb s.indicator indicator_not_set)

-- "re-read 1, and no held read equal in day, value, type, indicator"
unfoldable pub is_held_equal : Submission → Option Entry → Bool
is_held_equal s (Some h) =
    has_read s.day s.value h && (eqb h.letter s.letter && eqb h.indicator s.indicator)
is_held_equal s None = false

unfoldable pub is_unheld_reread : Submission → Option Entry → Bool
is_unheld_reread s held = eqb s.reread 1 && not (is_held_equal s held)

-- "standing and withdrawn entries number 50"; 02, 2: "16 counts to 49"
unfoldable pub is_full : Journal → Bool
is_full j = eqb (kept j.entries) (most_entries j.head)

-- ---- 17 to 21, "under Detection" and "under Volume"
unfoldable pub is_denied : Result ℕ Refusal → Bool
is_denied found = eqb (indicated_number found) read_ee

unfoldable pub is_unclear : Result ℕ Refusal → Bool
is_unclear found = eqb (indicated_number found) read_ef

-- what detection and the indicator make of a submission
unfoldable pub indicated_in : Submission → Journal → Result ℕ Refusal
indicated_in s j = indicated (detected j.head.dials s (recent_of (standing j.entries))) s.indicator

-- ---- 22, 23, 28: withdrawal
-- "no standing read of that day and value"
unfoldable pub is_not_standing : ℕ → ℕ → List Entry → Bool
is_not_standing day value ss = not (any (has_read day value) ss)

-- "it stands, but not last"
unfoldable pub is_not_last : ℕ → ℕ → Option Entry → Bool
is_not_last day value (Some r0) = not (has_read day value r0)
is_not_last day value None = true

-- 28: "withdrawal of the oldest kept read"
unfoldable pub is_oldest_kept : ℕ → ℕ → Head → Option Entry → Bool
is_oldest_kept day value head (Some oldest) = head.carried && has_read day value oldest
is_oldest_kept day value head None = false

-- ---- 27: fold
-- "fewer than four stand or an F stands"
abbrev pub least_to_fold : ℕ
least_to_fold = 4

unfoldable pub is_no_fold : List Entry → Bool
is_no_fold ss = ltb (length ss) least_to_fold || any is_final_read ss

-- ---- THE ORDER OF CHECKS. Every call checks 2 first, and then 3 for a place above 63.

-- 3 and 4, which are of the area alone, and then what a call asks of the journal
abbrev pub with_journal : (Journal → List Rule) → List ℕ → List Rule
with_journal rules area = area_rules area ++ rules (journal_of area)

-- "Submit checks 2 to 8; then, if a read of that day stands, 1, 9 (submitted type I or F), 10, 11; then 12, 13, 9 (I or O with a read standing,
-- F with an F standing), 14 to 21." Each group by itself, and then the list.
module _ (s : Submission) (j : Journal) where
  abbrev pub same_day : Option Entry
  same_day = on_day s.day (standing j.entries)

  abbrev pub recent : Recent
  recent = recent_of (standing j.entries)

  -- the flag that the read is taken with
  abbrev pub taken_flag : ℕ
  taken_flag = indicated_flag (indicated_in s j)

  -- 5 and 6; 02, 4: "29, .. after 6"; 7 and 8
  unfoldable pub content_rules : List Rule
  content_rules =
      rule missing (is_missing s)
      ∷ rule content (is_bad_content j.head.dials s)
      ∷ rule other_type (is_other_type j.head.profile s)
      ∷ rule date (is_bad_date s)
      ∷ rule withdrawn_read (is_withdrawn_read s j.entries)
      ∷ []

  -- 1, 9, 10, 11
  unfoldable pub same_day_rules : List Rule
  same_day_rules =
      rule repeat (is_repeat s same_day)
      ∷ rule read_at (is_at_on_day s same_day)
      ∷ rule read_eh (is_other_indicator s same_day)
      ∷ rule read_bf (is_there same_day)
      ∷ []

  -- 12, 13, 9, 14 to 16
  unfoldable pub order_rules : List Rule
  order_rules =
      rule back_dated (is_back_dated s (slot_at (standing j.entries) 0))
      ∷ rule read_df (is_unopened s (standing j.entries))
      ∷ rule read_at (is_at_later s (standing j.entries))
      ∷ rule indicator_on_opening (is_opening_indicated s)
      ∷ rule no_original (is_unheld_reread s (held_of j.entries))
      ∷ rule full (is_full j)
      ∷ []

  -- 17 and 18
  unfoldable pub indicator_rules : List Rule
  indicator_rules = rule read_ee (is_denied (indicated_in s j)) ∷ rule read_ef (is_unclear (indicated_in s j)) ∷ []

  -- 19 to 21
  unfoldable pub volume_rules : List Rule
  volume_rules =
      rule low (is_low_volume j.head.dials s taken_flag recent)
      ∷ rule high (is_high_volume j.head.dials s taken_flag recent)
      ∷ rule over_capacity (is_over_capacity j.head.dials j.head.capacity s taken_flag recent)
      ∷ []

  unfoldable pub submit_rules : List Rule
  submit_rules = content_rules ++ (same_day_rules ++ (order_rules ++ (indicator_rules ++ volume_rules)))

unfoldable pub submit_checks : Submission → List ℕ → List Rule
submit_checks s area = with_journal (submit_rules s) area

-- "Withdraw: 2, 3, 4, 22, 23."; 02, 2: "28, .. after 23"
unfoldable pub withdraw_rules : ℕ → ℕ → Journal → List Rule
withdraw_rules day value j =
    rule not_standing (is_not_standing day value (standing j.entries))
    ∷ rule not_last (is_not_last day value (slot_at (standing j.entries) 0))
    ∷ rule oldest_kept (is_oldest_kept day value j.head (oldest_of (standing j.entries)))
    ∷ []

unfoldable pub withdraw_checks : ℕ → ℕ → List ℕ → List Rule
withdraw_checks day value area = with_journal (withdraw_rules day value) area

-- "Enrol: 2, 3, 24, 25."
unfoldable pub enrol_checks : Head → List ℕ → List Rule
enrol_checks head area = rule enrolled (not (all_zero area)) ∷ rule plate (not (is_plate head)) ∷ []

-- "Report: 2, 3, 4."
unfoldable pub report_checks : List ℕ → List Rule
report_checks area = with_journal (λ j. []) area

-- 02, 2: "27, .. after 4 in fold"
unfoldable pub fold_rules : Journal → List Rule
fold_rules j = rule no_fold (is_no_fold (standing j.entries)) ∷ []

unfoldable pub fold_checks : List ℕ → List Rule
fold_checks area = with_journal fold_rules area
