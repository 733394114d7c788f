-- 01, The two runs of demand 3, and 02, 2: examples that fix what the definitions mean, as the pairs at an edge do for the rules. The meter
-- is at place 7, and the calls are those of case S with a few more.
use Rattle.std.specs.Prelude.{◌≡◌, Bool, true, false, List, [], ◌∷◌, ◌++◌, ℕ, ℤ, pos, neg_ℤ, Some, None, Err}
use Rattle.terms.specs.declared.entry.Entry.{Entry}
use Rattle.terms.specs.declared.profile.Profile.TheVariants.{Ordinary, Pseudo}
use Rattle.terms.specs.declared.submission.Submission.{Submission}
use Rattle.terms.specs.Answer.{answer, refusal, reported, refused_report}
use Rattle.terms.specs.Entry.{kind_standing, kind_withdrawn, kind_held, indicator_not_set, indicator_true}
use Rattle.terms.specs.Letter.{letter_c, letter_f}
use Rattle.terms.specs.Number.{accepted, no_meter, withdrawn_read, read_ef, low, high, not_last, plate as plate_number, no_fold, oldest_kept}
use Rattle.terms.specs.Rule.{first_broken}
use Rattle.terms.specs.declared.refusal.Refusal.TheVariants.{Ef}
use Rattle.register.specs.declared.head.Carry.{Carry}
use Rattle.register.specs.declared.head.Head.{Head}
use Rattle.register.specs.Head.{no_carry, head_of, most_entries, offset_after}
use Rattle.journal.specs.Journal.{Journal, standing, oldest_of}
use Rattle.journal.specs.Sound.{carries_right}
use Rattle.journal.specs.Total.{report_of}
use Rattle.calls.specs.declared.call.Call.TheVariants.{Enrol, Submit, Withdraw, Report as ReportCall, Fold, Trial}
use Rattle.calls.specs.declared.call.Reply.TheVariants.{Answered, Reported}
use Rattle.calls.specs.Checks.{is_withdrawn_read, is_oldest_kept, is_no_fold, indicated_in, recent, withdraw_rules, fold_rules}
use Rattle.calls.specs.Calls.{fold_in}
use Rattle.calls.specs.DemandOne.{HasZeros}
use Rattle.calls.specs.Fold.{folded_journal}
use Rattle.calls.specs.Play.{Exchange, exchange, is_picked, picked}
use Rattle.calls.specs.Ledger.{Named, named, empty_ledger, is_accepted, ledger_of, has_accepted, is_enrolment, has_enrolment, last_less_first, less_first, is_among, are_none_of}

abbrev pub meter : ℕ
meter = 7

-- ---- calls and their answers
abbrev pub read : ℕ → ℕ → Submission
read day value = record { submitted = 1600; day = day; value = value; letter = letter_c; indicator = indicator_true; reread = 0 }

abbrev pub enrolled : Exchange
enrolled = exchange (Enrol meter Ordinary 4 5000) (Answered (answer accepted 0 (pos 0)))

abbrev pub refused_enrolment : Exchange
refused_enrolment = exchange (Enrol meter Ordinary 2 5000) (Answered (refusal plate_number))

abbrev pub submitted : ℕ → ℕ → ℕ → ℤ → Exchange
submitted day value flag advance = exchange (Submit meter (read day value)) (Answered (answer accepted flag advance))

abbrev pub refused_read : ℕ → Exchange
refused_read number = exchange (Submit meter (read 1540 100)) (Answered (refusal number))

abbrev pub withdrew : ℕ → ℕ → ℕ → ℤ → Exchange
withdrew day value flag advance = exchange (Withdraw meter day value) (Answered (answer accepted flag advance))

abbrev pub asked : Exchange
asked = exchange (ReportCall meter) (Reported (reported accepted 2 0 (pos 200)))

abbrev pub asked_in_vain : Exchange
asked_in_vain = exchange (ReportCall meter) (Reported (refused_report no_meter))

-- another meter's call
abbrev pub asked_elsewhere : Exchange
asked_elsewhere = exchange (ReportCall 8) (Reported (reported accepted 2 0 (pos 200)))

-- a year's calls: a report before the enrolment, two reads, one that is unclear, held, taken and withdrawn, and sent again
unfoldable pub year : List Exchange
year =
    asked_in_vain
    ∷ enrolled
    ∷ submitted 1000 9200 0 (pos 0)
    ∷ submitted 1180 9400 0 (pos 200)
    ∷ asked_elsewhere
    ∷ refused_read read_ef
    ∷ refused_read high
    ∷ submitted 1540 100 1 (pos 700)
    ∷ withdrew 1540 100 1 (neg_ℤ (pos 700))
    ∷ refused_read withdrawn_read
    ∷ asked
    ∷ []

-- ---- a fold
abbrev pub fold_answered : ℕ → Exchange
fold_answered number = exchange (Fold meter) (Answered (refusal number))

-- four reads, and a fold
unfoldable pub four_reads : List Exchange
four_reads =
    enrolled
    ∷ submitted 1000 9200 0 (pos 0)
    ∷ submitted 1180 9400 0 (pos 200)
    ∷ submitted 1360 9600 0 (pos 200)
    ∷ submitted 1540 100 1 (pos 500)
    ∷ []

abbrev pub four_names : List Named
four_names = named 1540 100 ∷ named 1360 9600 ∷ named 1180 9400 ∷ named 1000 9200 ∷ []

abbrev pub entry : ℕ → ℕ → ℕ → Entry
entry kind day value =
    record { kind = kind; day = day; value = value; letter = letter_c; indicator = indicator_true; flag = 0 }

abbrev pub flagged_entry : ℕ → ℕ → ℕ → Entry
flagged_entry kind day value =
    record { kind = kind; day = day; value = value; letter = letter_c; indicator = indicator_true; flag = 1 }

abbrev pub final : Entry
final =
    record { kind = kind_standing; day = 2000; value = 950; letter = letter_f; indicator = indicator_true; flag = 0 }

abbrev pub plate : Bool → Carry → Head
plate carried carry = record { profile = Ordinary; dials = 4; capacity = 5000; carried = carried; carry = carry }

-- five standing reads, three of them flagged; withdrawn ones before the oldest that is kept, on its day and after it; and a held one
abbrev pub full : Journal
full =
    record {
      head = plate false no_carry;
      entries =
          entry kind_held 1900 900
          ∷ entry kind_standing 1720 500
          ∷ entry kind_withdrawn 1400 1
          ∷ entry kind_withdrawn 1360 9601
          ∷ flagged_entry kind_standing 1540 100
          ∷ entry kind_standing 1360 9600
          ∷ entry kind_withdrawn 1200 2
          ∷ flagged_entry kind_standing 1180 9400
          ∷ flagged_entry kind_standing 1000 9200
          ∷ [];
    }

abbrev pub left : List Entry
left =
    entry kind_held 1900 900
    ∷ entry kind_standing 1720 500
    ∷ entry kind_withdrawn 1400 1
    ∷ flagged_entry kind_standing 1540 100
    ∷ entry kind_standing 1360 9600
    ∷ []

-- a carry, and with it the first reads of such a journal
abbrev pub counts : ℕ → ℕ → ℕ → Carry
counts first folded flagged = record { first = first; folded = folded; flagged = flagged }

abbrev pub again : Journal
again = record { head = plate true (counts 9200 2 2); entries = entry kind_standing 1900 900 ∷ left }

-- two kept reads, and one that follows them over a turn of the dials: with the folded read as R-2 it would be a rollover
abbrev pub pair : Journal
pair = record { head = plate true (counts 9200 1 0); entries = entry kind_standing 1360 9700 ∷ entry kind_standing 1180 9400 ∷ [] }

abbrev pub over_the_turn : Submission
over_the_turn = record { submitted = 1600; day = 1540; value = 100; letter = letter_c; indicator = indicator_not_set; reread = 0 }

-- one read alone
abbrev pub alone : Head → Journal
alone head = record { head = head; entries = entry kind_standing 1360 9600 ∷ [] }

-- THE CLAIM: one row for each example
pub record ExamplesHold : Type 0 where
  -- "only the calls that name this meter and that A answered 0, 19 or 20": reports too
  pub report_picked : is_picked meter asked ≡ true
  pub refused_report_not : is_picked meter asked_in_vain ≡ false
  pub other_meter_not : is_picked meter asked_elsewhere ≡ false
  pub low_picked : is_picked meter (refused_read low) ≡ true
  pub high_picked : is_picked meter (refused_read high) ≡ true
  pub unclear_not : is_picked meter (refused_read read_ef) ≡ false
  pub picked_in_order : picked meter year ≡ enrolled ∷ submitted 1000 9200 0 (pos 0) ∷ submitted 1180 9400 0 (pos 200) ∷ refused_read high ∷ submitted 1540 100 1 (pos 700) ∷ withdrew 1540 100 1 (neg_ℤ (pos 700)) ∷ asked ∷ []
  -- "Accepted means answered 0"
  pub report_accepted : is_accepted meter asked ≡ true
  pub low_not_accepted : is_accepted meter (refused_read low) ≡ false
  pub high_not_accepted : is_accepted meter (refused_read high) ≡ false
  pub refused_report_not_accepted : is_accepted meter asked_in_vain ≡ false
  pub other_meter_not_accepted : is_accepted meter asked_elsewhere ≡ false
  -- "It starts empty."
  pub starts_empty : ledger_of meter [] ≡ record { standing = []; advances = pos 0; flags = pos 0; dials = 0; withdrawn = []; folded = 0 }
  -- "An accepted submission puts its day and value at the end." The newest is first in our lists.
  pub put_at_end : ledger_of meter (enrolled ∷ submitted 1000 9200 0 (pos 0) ∷ submitted 1180 9400 1 (pos 200) ∷ []) ≡ record { standing = named 1180 9400 ∷ named 1000 9200 ∷ []; advances = pos 200; flags = pos 1; dials = 4; withdrawn = []; folded = 0 }
  -- "any answer but 0 (19 and 20 too), changes nothing"
  pub query_changes_nothing : ledger_of meter (refused_read low ∷ refused_read high ∷ asked_in_vain ∷ []) ≡ empty_ledger
  -- "An accepted withdrawal takes out the read of its day and value." It is remembered.
  pub taken_out : ledger_of meter year ≡ record { standing = named 1180 9400 ∷ named 1000 9200 ∷ []; advances = pos 200; flags = pos 0; dials = 4; withdrawn = named 1540 100 ∷ []; folded = 0 }
  -- "its last standing value minus its first (0 if none stands)"; "of one read they are the same"
  pub last_less_first_row : last_less_first (named 1360 9600 ∷ named 1180 9400 ∷ named 1000 9200 ∷ []) ≡ pos 400
  pub back_over_the_turn : last_less_first (named 1540 100 ∷ named 1000 9200 ∷ []) ≡ neg_ℤ (pos 9100)
  pub one_read : last_less_first (named 1000 9200 ∷ []) ≡ pos 0
  pub no_read : last_less_first [] ≡ pos 0
  -- a read "whose day and value an accepted withdrawal there named" is seen, and a corrected value is another read
  pub among : is_among (named 1540 100) (named 1700 300 ∷ named 1540 100 ∷ []) ≡ true
  pub corrected_not_among : is_among (named 1540 101) (named 1700 300 ∷ named 1540 100 ∷ []) ≡ false
  pub not_apart : are_none_of (named 1180 9400 ∷ named 1540 100 ∷ []) (named 1540 100 ∷ []) ≡ false
  pub apart : are_none_of (named 1540 101 ∷ named 1180 100 ∷ []) (named 1540 100 ∷ []) ≡ true
  -- 8: "a withdrawn entry has this day and value", not a standing one, and not another value
  pub withdrawn_refused : is_withdrawn_read (read 1540 100) (entry kind_standing 1180 9400 ∷ entry kind_withdrawn 1540 100 ∷ []) ≡ true
  pub corrected_not_refused : is_withdrawn_read (read 1540 101) (entry kind_withdrawn 1540 100 ∷ []) ≡ false
  pub standing_not_refused : is_withdrawn_read (read 1540 100) (entry kind_standing 1540 100 ∷ []) ≡ false
  -- "the meter's accepted enrolment"; "without one nothing is accepted there"
  pub year_enrolled : has_enrolment meter year ≡ true
  pub elsewhere_not_enrolled : has_enrolment 8 year ≡ false
  pub elsewhere_accepted : has_accepted 8 year ≡ true
  pub refused_not_enrolled : has_enrolment meter (refused_enrolment ∷ []) ≡ false
  pub read_not_enrolled : has_enrolment meter (submitted 1000 9200 0 (pos 0) ∷ []) ≡ false
  pub enrolment_is : is_enrolment (Enrol meter Ordinary 4 5000) ≡ true
  pub pseudo_enrolment_is : is_enrolment (Enrol meter Pseudo 4 5000) ≡ true
  pub submission_is_none : is_enrolment (Submit meter (read 1540 100)) ≡ false
  pub withdrawal_is_none : is_enrolment (Withdraw meter 1540 100) ≡ false
  pub report_is_none : is_enrolment (ReportCall meter) ≡ false
  pub fold_is_none : is_enrolment (Fold meter) ≡ false
  pub trial_is_none : is_enrolment (Trial meter (read 1540 100)) ≡ false
  pub queries_not_accepted : has_accepted meter (refused_read low ∷ refused_read high ∷ asked_in_vain ∷ []) ≡ false
  -- 02, 2: "It leaves the meter's list of standing reads as it is"; all but the last three are folded then. A refused fold changes nothing.
  pub fold_picked : is_picked meter (fold_answered accepted) ≡ true
  pub refused_fold_not : is_picked meter (fold_answered no_fold) ≡ false
  pub folded_ledger : ledger_of meter (four_reads ++ (fold_answered accepted ∷ [])) ≡ record { standing = four_names; advances = pos 900; flags = pos 1; dials = 4; withdrawn = []; folded = 1 }
  pub unfolded_ledger : ledger_of meter (four_reads ++ (fold_answered no_fold ∷ [])) ≡ ledger_of meter four_reads
  -- what was withdrawn is remembered, although its entry may be gone
  pub fold_remembers : (ledger_of meter (year ++ (fold_answered accepted ∷ []))).withdrawn ≡ named 1540 100 ∷ []
  -- "that list less its first reads, as many as were folded"
  pub less_first_row : less_first 1 four_names ≡ named 1540 100 ∷ named 1360 9600 ∷ named 1180 9400 ∷ []
  pub less_none : less_first 0 four_names ≡ four_names
  -- "A fold .. keeps the last three standing reads." "Withdrawn entries dated no later than the oldest kept read go too". "Other entries close
  -- up in order."
  pub folds : folded_journal full ≡ record { head = plate true (counts 9200 2 2); entries = left }
  -- "A later fold adds to it.": the first value stays, one read more is folded, and it is not flagged
  pub folds_again : (folded_journal again).head ≡ plate true (counts 9200 3 2)
  -- "27, fewer than four stand or an F stands"
  pub three_no_fold : is_no_fold (standing left) ≡ true
  pub four_fold : is_no_fold (standing again.entries) ≡ false
  pub five_fold : is_no_fold (standing full.entries) ≡ false
  pub final_no_fold : is_no_fold (final ∷ standing full.entries) ≡ true
  pub older_final_no_fold : is_no_fold (entry kind_standing 2180 990 ∷ final ∷ standing full.entries) ≡ true
  -- a withdrawn read and a held one do not stand
  pub three_refused : first_broken (fold_rules (record { head = plate false no_carry; entries = left })) ≡ no_fold
  pub four_folded : first_broken (fold_rules again) ≡ accepted
  -- "28, withdrawal of the oldest kept read": with a carry only
  pub oldest_kept_lem : is_oldest_kept 1360 9600 (plate true (counts 9200 2 2)) (oldest_of (standing left)) ≡ true
  pub other_not_oldest : is_oldest_kept 1720 500 (plate true (counts 9200 2 2)) (oldest_of (standing left)) ≡ false
  pub uncarried_not_oldest : is_oldest_kept 1000 9200 (plate false no_carry) (oldest_of (standing full.entries)) ≡ false
  -- "28, .. after 23": the oldest kept read is 23 while others stand, and 28 when alone
  pub oldest_not_last : first_broken (withdraw_rules 1360 9600 (record { head = plate true (counts 9200 2 2); entries = left })) ≡ not_last
  pub oldest_alone : first_broken (withdraw_rules 1360 9600 (alone (plate true (counts 9200 2 2)))) ≡ oldest_kept
  pub uncarried_alone : first_broken (withdraw_rules 1360 9600 (alone (plate false no_carry))) ≡ accepted
  -- "zeros in the other fields": in each of them, whatever the number
  pub refusal_zeros : (number : ℕ) → HasZeros (Answered (refusal number))
  pub flag_no_zero : (number : ℕ) → HasZeros (Answered (answer number 1 (pos 0))) → ⊥
  pub advance_no_zero : (number : ℕ) → HasZeros (Answered (answer number 0 (pos 5))) → ⊥
  pub report_zeros : (number : ℕ) → HasZeros (Reported (refused_report number))
  pub standing_no_zero : (number : ℕ) → HasZeros (Reported (reported number 1 0 (pos 0))) → ⊥
  pub flagged_no_zero : (number : ℕ) → HasZeros (Reported (reported number 0 1 (pos 0))) → ⊥
  pub total_no_zero : (number : ℕ) → HasZeros (Reported (reported number 0 0 (pos 5))) → ⊥
  -- "Fold answers flag 0 and advance 0", on every area
  pub fold_zeros : (area : List ℕ) → HasZeros (fold_in area).reply
  -- "Folded reads don't exist for any check, detection or volume"
  pub folded_not_detected : indicated_in over_the_turn pair ≡ Err Ef
  pub folded_not_recent : recent over_the_turn (alone (plate true (counts 9200 2 2))) ≡ record { last = Some (entry kind_standing 1360 9600); second = None; third = None }
  -- "a carry, kind 5, right after kind 1: first value (4 bytes), folded reads (2), flagged among them (2)", and not kind 5 later
  pub carry_read : head_of (1 ∷ 4 ∷ 136 ∷ 19 ∷ 0 ∷ 0 ∷ 5 ∷ 40 ∷ 35 ∷ 0 ∷ 0 ∷ 47 ∷ 0 ∷ 1 ∷ 0 ∷ []) ≡ plate true (counts 9000 47 1)
  pub no_carry_read : head_of (1 ∷ 4 ∷ 136 ∷ 19 ∷ 0 ∷ 0 ∷ 2 ∷ 5 ∷ 5 ∷ 5 ∷ 5 ∷ 5 ∷ 5 ∷ 5 ∷ 5 ∷ []) ≡ plate false no_carry
  -- the entries start after it: 6 bytes of kind 1, and 9 of the carry
  pub after_the_carry : offset_after (plate true (counts 9200 2 2)) 0 ≡ 15
  pub after_the_meter : offset_after (plate false no_carry) 0 ≡ 6
  -- "Report .. count the carry": 500 − 9200 and three turns of four dials
  pub reports : report_of (folded_journal full) ≡ reported accepted 5 3 (pos 21300)
  pub reports_alike : report_of full ≡ reported accepted 5 3 (pos 21300)
  -- "A carry is sound if its value is below 10^n, flagged is at most folded, folded is at least 1 and below the oldest kept day, and a read
  -- stands."
  pub carry_right : carries_right (plate true (counts 9999 1359 1359)) (standing left) ≡ true
  pub value_too_large : carries_right (plate true (counts 10000 2 2)) (standing left) ≡ false
  pub flagged_above : carries_right (plate true (counts 9200 2 3)) (standing left) ≡ false
  pub none_folded : carries_right (plate true (counts 9200 0 0)) (standing left) ≡ false
  pub folded_to_the_day : carries_right (plate true (counts 9200 1360 2)) (standing left) ≡ false
  pub none_stands : carries_right (plate true (counts 9200 2 2)) [] ≡ false
  -- "After a carry at most 49 entries follow"
  pub fewer_after : most_entries (plate true (counts 9200 2 2)) ≡ 49
  pub fifty_without : most_entries (plate false no_carry) ≡ 50
