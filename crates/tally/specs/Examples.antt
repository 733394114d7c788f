-- 02, 6, A standing tally: examples that fix what the definitions mean, each edge beside its neighbour. The meter is at place 7.
use Rattle.std.specs.Prelude.{◌≡◌, true, false, List, [], ◌∷◌, ℕ, ℤ, pos, neg_ℤ}
use Rattle.terms.specs.declared.profile.Profile.{Profile}
use Rattle.terms.specs.declared.profile.Profile.TheVariants.{Ordinary, Pseudo}
use Rattle.terms.specs.Answer.{answer, refusal, reported, refused_report}
use Rattle.terms.specs.Number.{accepted, no_meter, damaged, back_dated, low, high, not_last, enrolled, no_fold}
use Rattle.calls.specs.declared.call.Call.{Call}
use Rattle.calls.specs.declared.call.Call.TheVariants.{Enrol, Submit, Withdraw, Trial}
use Rattle.calls.specs.declared.call.Reply.TheVariants.{Answered}
use Rattle.calls.specs.Play.{Exchange, exchange}
use Rattle.calls.specs.Examples.{meter, read, submitted, withdrew, asked, fold_answered}
use Rattle.calls.specs.TrialExamples.{tried}
use Rattle.tally.specs.declared.tally.Tally.{Tally}
use Rattle.tally.specs.Tally.{tallied, zero_tally, tally_number, tally_report}
use Rattle.tally.specs.Change.{tally_after}
use Rattle.tally.specs.Kept.{tally_over, are_dated}

-- ---- calls and their answers
abbrev pub enrolled_as : Profile → ℕ → Exchange
enrolled_as profile dials = exchange (Enrol meter profile dials 5000) (Answered (answer accepted 0 (pos 0)))

abbrev pub enrol_refused : Exchange
enrol_refused = exchange (Enrol meter Ordinary 4 5000) (Answered (refusal enrolled))

abbrev pub submit_answered : ℕ → Exchange
submit_answered number = exchange (Submit meter (read 1180 9400)) (Answered (refusal number))

abbrev pub withdraw_refused : Exchange
withdraw_refused = exchange (Withdraw meter 1180 9400) (Answered (refusal not_last))

-- another meter's call, accepted
abbrev pub elsewhere : Call → ℕ → ℤ → Exchange
elsewhere call flag advance = exchange call (Answered (answer accepted flag advance))

-- a year's calls on two meters: a read that is held and then taken, over a turn of the dials, and withdrawn
unfoldable pub year : List Exchange
year =
    submit_answered no_meter
    ∷ enrolled_as Ordinary 4
    ∷ elsewhere (Enrol 8 Ordinary 5 5000) 0 (pos 0)
    ∷ submitted 1000 9200 0 (pos 0)
    ∷ elsewhere (Submit 8 (read 1000 70000)) 0 (pos 0)
    ∷ submitted 1180 9400 0 (pos 200)
    ∷ submit_answered high
    ∷ submitted 1540 100 1 (pos 700)
    ∷ elsewhere (Submit 8 (read 1180 100)) 1 (pos 30100)
    ∷ fold_answered no_fold
    ∷ withdrew 1540 100 1 (neg_ℤ (pos 700))
    ∷ asked
    ∷ submitted 1720 300 1 (pos 900)
    ∷ []

-- the tally after a call on its meter and the answer to it
abbrev pub after : Exchange → Tally → Tally
after x t = tally_after x.call x.reply t

-- a meter of four dials: enrolled, with a read, with two, and with a third over the turn
abbrev pub none : Tally
none = tallied 4 0 0 0 0

abbrev pub one : Tally
one = tallied 4 1 0 9200 9200

abbrev pub two : Tally
two = tallied 4 2 0 9200 9400

abbrev pub turned : Tally
turned = tallied 4 3 1 9200 100

-- THE CLAIM: one row for each example
pub record TallyExamplesHold : Type 0 where
  -- "An all-zero tally reports 3": all five are 0
  pub zero : tally_number zero_tally ≡ no_meter
  pub zero_but_standing : tally_number (tallied 0 1 0 0 0) ≡ damaged
  pub zero_but_flagged : tally_number (tallied 0 0 1 0 0) ≡ damaged
  pub zero_but_first : tally_number (tallied 0 0 0 1 0) ≡ damaged
  pub zero_but_last : tally_number (tallied 0 0 0 0 1) ≡ damaged
  -- "Any other with dials not 3 to 9"
  pub two_dials : tally_number (tallied 2 0 0 0 0) ≡ damaged
  pub three_dials : tally_number (tallied 3 0 0 0 0) ≡ accepted
  pub nine_dials : tally_number (tallied 9 0 0 0 0) ≡ accepted
  pub ten_dials : tally_number (tallied 10 0 0 0 0) ≡ damaged
  -- "a value not below 10^n"
  pub largest_first : tally_number (tallied 3 1 0 999 0) ≡ accepted
  pub first_past_the_dials : tally_number (tallied 3 1 0 1000 0) ≡ damaged
  pub largest_last : tally_number (tallied 3 1 0 0 999) ≡ accepted
  pub last_past_the_dials : tally_number (tallied 3 1 0 0 1000) ≡ damaged
  pub largest_of_nine : tally_number (tallied 9 1 0 999999999 999999999) ≡ accepted
  pub past_nine_dials : tally_number (tallied 9 1 0 0 1000000000) ≡ damaged
  -- "or not 0 where none stands"
  pub first_of_none : tally_number (tallied 3 0 0 1 0) ≡ damaged
  pub last_of_none : tally_number (tallied 3 0 0 0 1) ≡ damaged
  -- "flagged above standing"
  pub all_flagged : tally_number (tallied 3 2 2 0 0) ≡ accepted
  pub flagged_above : tally_number (tallied 3 2 3 0 0) ≡ damaged
  pub flagged_of_none : tally_number (tallied 3 0 1 0 0) ≡ damaged
  -- "or standing above 65,535 reports 4"
  pub most_standing_row : tally_number (tallied 3 65535 65535 0 0) ≡ accepted
  pub standing_above : tally_number (tallied 3 65536 0 0 0) ≡ damaged
  -- a report: "last − first + 10^n × flagged, 0 if none stands"; a refused one has zeros
  pub zero_report : tally_report zero_tally ≡ refused_report no_meter
  pub broken_report : tally_report (tallied 4 2 3 9200 9400) ≡ refused_report damaged
  pub none_report : tally_report none ≡ reported accepted 0 0 (pos 0)
  pub one_report : tally_report one ≡ reported accepted 1 0 (pos 0)
  pub two_report : tally_report two ≡ reported accepted 2 0 (pos 200)
  pub back_report : tally_report (tallied 4 2 0 9200 9150) ≡ reported accepted 2 0 (neg_ℤ (pos 50))
  pub turned_report : tally_report turned ≡ reported accepted 3 1 (pos 900)
  pub two_turns_report : tally_report (tallied 3 7 2 900 100) ≡ reported accepted 7 2 (pos 1200)
  pub most_report : tally_report (tallied 9 65535 65535 999999999 0) ≡ reported accepted 65535 65535 (pos 65534000000001)
  -- "An all-zero tally .. takes only an enrolment": of either profile, of 3 to 9 dials
  pub enrols : after (enrolled_as Ordinary 4) zero_tally ≡ none
  pub enrols_pseudo : after (enrolled_as Pseudo 4) zero_tally ≡ none
  pub enrols_three : after (enrolled_as Ordinary 3) zero_tally ≡ tallied 3 0 0 0 0
  pub enrols_nine : after (enrolled_as Pseudo 9) zero_tally ≡ tallied 9 0 0 0 0
  pub two_not_enrolled : after (enrolled_as Ordinary 2) zero_tally ≡ zero_tally
  pub ten_not_enrolled : after (enrolled_as Ordinary 10) zero_tally ≡ zero_tally
  pub refused_not_enrolled : after enrol_refused zero_tally ≡ zero_tally
  pub zero_takes_no_read : after (submitted 1000 9200 0 (pos 0)) zero_tally ≡ zero_tally
  pub zero_takes_no_value : after (submitted 1000 0 0 (pos 0)) zero_tally ≡ zero_tally
  pub zero_takes_no_withdrawal : after (withdrew 1000 9200 0 (pos 0)) zero_tally ≡ zero_tally
  pub zero_takes_no_fold : after (fold_answered accepted) zero_tally ≡ zero_tally
  -- "which no other takes": no enrolled one, and no broken one
  pub not_enrolled_again : after (enrolled_as Ordinary 5) none ≡ none
  pub reads_not_enrolled_over : after (enrolled_as Ordinary 5) two ≡ two
  pub broken_not_enrolled : after (enrolled_as Ordinary 4) (tallied 0 0 1 0 0) ≡ tallied 0 0 1 0 0
  -- "an accepted submission's value becomes the last", and the first where none stands
  pub first_read : after (submitted 1000 9200 0 (pos 0)) none ≡ one
  pub first_read_flagged : after (submitted 1000 9200 1 (pos 0)) none ≡ tallied 4 1 1 9200 9200
  pub second_read : after (submitted 1180 9400 0 (pos 200)) one ≡ two
  pub flag_counted : after (submitted 1540 100 1 (pos 700)) two ≡ turned
  pub flags_counted : after (submitted 1720 50 1 (pos 9950)) turned ≡ tallied 4 4 2 9200 50
  pub first_of_0_kept : after (submitted 1180 100 0 (pos 100)) (tallied 4 1 0 0 0) ≡ tallied 4 2 0 0 100
  -- refused, 19 and 20 too, it changes nothing
  pub refused_not_counted : after (submit_answered back_dated) one ≡ one
  pub low_not_counted : after (submit_answered low) one ≡ one
  pub high_not_counted : after (submit_answered high) one ≡ one
  -- "an accepted withdrawal's answered advance and flag × 10^n are added to the last"
  pub taken_back : after (withdrew 1180 9400 0 (neg_ℤ (pos 200))) two ≡ one
  pub taken_back_over_the_turn : after (withdrew 1540 100 1 (neg_ℤ (pos 700))) turned ≡ two
  pub two_turns_taken_back : after (withdrew 1720 50 2 (neg_ℤ (pos 10650))) (tallied 4 4 2 9200 50) ≡ tallied 4 3 0 9200 9400
  pub step_back_taken_back : after (withdrew 1540 9370 0 (pos 30)) (tallied 4 3 0 9200 9370) ≡ two
  pub withdrawal_refused : after withdraw_refused two ≡ two
  -- "Both values are 0 where none stands."
  pub only_read_gone : after (withdrew 1000 9200 0 (pos 0)) one ≡ none
  pub only_read_gone_whatever_advance : after (withdrew 1000 9200 0 (neg_ℤ (pos 9300))) one ≡ none
  pub only_flagged_gone : after (withdrew 1000 9200 1 (pos 0)) (tallied 4 1 1 9200 9200) ≡ none
  -- a fold and a report change nothing
  pub fold_changes_nothing : after (fold_answered accepted) turned ≡ turned
  pub no_fold_changes_nothing : after (fold_answered no_fold) turned ≡ turned
  pub report_changes_nothing : after asked turned ≡ turned
  -- nor does a trial, which is no call on the meter, whatever it is answered
  pub trial_changes_nothing : after (tried accepted 1 (pos 700)) turned ≡ turned
  pub low_trial_changes_nothing : after (tried low 0 (pos 0)) turned ≡ turned
  -- nor does an answer that is none to the call
  pub enrol_reported : tally_after (enrolled_as Ordinary 4).call asked.reply zero_tally ≡ zero_tally
  pub submit_reported : tally_after (submitted 1180 9400 0 (pos 200)).call asked.reply one ≡ one
  pub withdraw_reported : tally_after (withdrew 1180 9400 0 (pos 0)).call asked.reply two ≡ two
  pub fold_reported : tally_after (fold_answered accepted).call asked.reply turned ≡ turned
  pub report_answered : tally_after asked.call (submitted 1180 9400 0 (pos 200)).reply one ≡ one
  -- "a change from .. one .. is not made", though it would be to one that reports 0
  pub from_first_of_none : after (submitted 1000 9200 0 (pos 0)) (tallied 4 0 0 1 0) ≡ tallied 4 0 0 1 0
  pub from_a_last_too_large : after (submitted 1180 9400 0 (pos 200)) (tallied 4 1 0 9200 10000) ≡ tallied 4 1 0 9200 10000
  pub from_flagged_above : after (submitted 1180 9400 0 (pos 200)) (tallied 4 1 2 9200 9200) ≡ tallied 4 1 2 9200 9200
  pub back_from_a_last_too_large : after (withdrew 1180 9400 0 (neg_ℤ (pos 800))) (tallied 4 2 0 9200 10000) ≡ tallied 4 2 0 9200 10000
  pub back_from_standing_above : after (withdrew 1180 9400 0 (neg_ℤ (pos 200))) (tallied 4 65536 0 9200 9400) ≡ tallied 4 65536 0 9200 9400
  -- "or to one": a value of 10^n, a read too many, more flags than reads
  pub largest_read : after (submitted 1180 9999 0 (pos 799)) one ≡ tallied 4 2 0 9200 9999
  pub to_a_value_too_large : after (submitted 1180 10000 0 (pos 800)) one ≡ one
  pub to_a_first_too_large : after (submitted 1000 10000 0 (pos 0)) none ≡ none
  pub last_that_may_stand : after (submitted 1180 9400 0 (pos 200)) (tallied 4 65534 0 9200 9200) ≡ tallied 4 65535 0 9200 9400
  pub to_standing_above : after (submitted 1180 9400 0 (pos 200)) (tallied 4 65535 0 9200 9200) ≡ tallied 4 65535 0 9200 9200
  pub to_flagged_above : after (submitted 1000 9200 2 (pos 0)) none ≡ none
  pub back_to_flagged_above : after (withdrew 1180 9400 0 (neg_ℤ (pos 200))) (tallied 4 2 2 9200 9400) ≡ tallied 4 2 2 9200 9400
  pub back_to_the_largest : after (withdrew 1180 9400 0 (pos 599)) two ≡ tallied 4 1 0 9200 9999
  pub back_to_a_last_too_large : after (withdrew 1180 9400 0 (pos 600)) two ≡ two
  pub back_by_a_turn_too_many : after (withdrew 1540 100 1 (pos 0)) turned ≡ turned
  -- "or to a number below 0": of reads, of flags, and of the last value
  pub none_to_withdraw : after (withdrew 1000 9200 0 (pos 0)) none ≡ none
  pub no_flag_to_take_off : after (withdrew 1180 9400 1 (neg_ℤ (pos 700))) (tallied 4 2 0 9200 100) ≡ tallied 4 2 0 9200 100
  pub back_to_0 : after (withdrew 1540 100 0 (neg_ℤ (pos 100))) (tallied 4 3 0 9200 100) ≡ tallied 4 2 0 9200 0
  pub back_below_0 : after (withdrew 1540 100 0 (neg_ℤ (pos 101))) (tallied 4 3 0 9200 100) ≡ tallied 4 3 0 9200 100
  pub back_far_below_0 : after (withdrew 1540 100 0 (neg_ℤ (pos 4294967296))) (tallied 4 3 0 9200 100) ≡ tallied 4 3 0 9200 100
  -- "after every answered call on that meter": another meter's calls change nothing
  pub over_a_year : tally_over meter year zero_tally ≡ tallied 4 3 1 9200 300
  pub elsewhere_over_a_year : tally_over 8 year zero_tally ≡ tallied 5 2 1 70000 100
  pub nowhere_over_a_year : tally_over 9 year zero_tally ≡ zero_tally
  -- 01: "day (2 bytes, 1 to 65,535)"
  pub last_day_lem : are_dated ((enrolled_as Ordinary 4).call ∷ (submitted 65535 9200 0 (pos 0)).call ∷ []) ≡ true
  pub past_the_last_day : are_dated ((enrolled_as Ordinary 4).call ∷ (submitted 65536 9200 0 (pos 0)).call ∷ []) ≡ false
  -- of a submission alone: a list with any other calls is one that the claim is about
  pub others_of_any_day : are_dated ((withdrew 65536 9200 0 (pos 0)).call ∷ asked.call ∷ (fold_answered accepted).call ∷ Trial meter (read 65536 9200) ∷ []) ≡ true
