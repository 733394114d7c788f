-- 01, Calls: what each call answers and what it leaves, byte for byte.
use Rattle.std.specs.Prelude.{Bool, false, not, ◌||◌, cond, List, [], ◌∷◌, ℕ, ◌*◌, eqb, leb, ℤ, neg_ℤ, length, set, take, drop, Option, Some, None}
use Rattle.terms.specs.declared.answer.Answer.{Answer}
use Rattle.terms.specs.declared.entry.Entry.{Entry}
use Rattle.terms.specs.declared.profile.Profile.{Profile}
use Rattle.terms.specs.declared.submission.Submission.{Submission}
use Rattle.terms.specs.Answer.{answer, acceptance, refusal, refused_report}
use Rattle.terms.specs.Entry.{kind_standing, kind_withdrawn, kind_held, slot_at}
use Rattle.terms.specs.Number.{accepted, misfit, no_meter, low, high}
use Rattle.terms.specs.Rule.{rule, first_broken}
use Rattle.rules.specs.Volume.{advance_over}
use Rattle.register.specs.declared.head.Head.{Head}
use Rattle.register.specs.Area.{area_bytes, areas_in, register_bytes, area_of, with_area}
use Rattle.register.specs.Entries.{put_entry, zero_entry}
use Rattle.register.specs.Head.{no_carry, put_head, entry_offset}
use Rattle.journal.specs.Journal.{Journal, journal_of, entry_count, standing, kept, held_of, is_there, newest_at, area_for}
use Rattle.calls.specs.declared.call.Call.{Call}
use Rattle.calls.specs.declared.call.Call.TheVariants.{Enrol, Submit, Withdraw, Report as ReportCall, Fold, Trial}
use Rattle.calls.specs.declared.call.Reply.{Reply}
use Rattle.calls.specs.declared.call.Reply.TheVariants.{Answered, Reported}
use Rattle.calls.specs.Checks.{submit_checks, withdraw_checks, enrol_checks, report_checks, fold_checks, taken_flag}
use Rattle.calls.specs.Fold.{folded_journal}
use Rattle.journal.specs.Total.{report_of}

-- what a call answers, and the area after it
pub record Acted : Type 0 where
  pub reply : Reply
  pub area : List ℕ

abbrev pub acted : Reply → List ℕ → Acted
acted reply area = record { reply = reply; area = area }

-- "Every number but 0 comes with zeros in the other fields and changes no byte"
abbrev pub refused : ℕ → List ℕ → Acted
refused number area = acted (Answered (refusal number)) area

-- ---- "Enrol (place, dials, capacity): writes kind 1." 02, 4: of a pseudo meter it writes kind 7, which is all that the profile changes.
abbrev pub plate_of : Profile → ℕ → ℕ → Head
plate_of profile dials capacity =
    record { profile = profile; dials = dials; capacity = capacity; carried = false; carry = no_carry }

unfoldable pub enrol_in : Head → List ℕ → Acted
enrol_in head area =
    cond (eqb (first_broken (enrol_checks head area)) accepted)
    (acted (Answered acceptance) (put_head area head))
    (refused (first_broken (enrol_checks head area)) area)

-- ---- "Submit (..): accepted, the read is written as kind 2 after the standing and withdrawn entries, over a held one. With 19 or 20 it is written
-- there as kind 4 with its flag." It answers "its flag and a".
unfoldable pub entry_for : ℕ → Submission → ℕ → Entry
entry_for kind s flag =
    record {
      kind = kind;
      day = s.day;
      value = s.value;
      letter = s.letter;
      indicator = s.indicator;
      flag = flag;
    }

-- the area with the read written after the standing and withdrawn entries
unfoldable pub written : ℕ → Submission → List ℕ → List ℕ
written kind s area =
    put_entry area (entry_offset area (kept (journal_of area).entries)) (entry_for kind s (taken_flag s (journal_of area)))

-- a: the advance over the last standing read
unfoldable pub submitted_advance : Submission → Journal → ℤ
submitted_advance s j = advance_over j.head.dials s.value (taken_flag s j) (slot_at (standing j.entries) 0)

abbrev pub is_volume_query : ℕ → Bool
is_volume_query number = eqb number low || eqb number high

unfoldable pub submit_in : Submission → List ℕ → Acted
submit_in s area =
    cond (eqb (first_broken (submit_checks s area)) accepted)
    (acted
    (Answered (answer accepted (taken_flag s (journal_of area)) (submitted_advance s (journal_of area))))
    (written kind_standing s area))
    (cond (is_volume_query (first_broken (submit_checks s area)))
    (refused (first_broken (submit_checks s area)) (written kind_held s area))
    (refused (first_broken (submit_checks s area)) area))

-- ---- "Withdraw (place, day, value): the last standing entry becomes kind 3 in its place and a held entry is zeroed; it answers that read's
-- flag and its advance negated."

-- the area with the entry that starts at `newest` withdrawn, and the one that starts at `end` zeroed if a read is held
unfoldable pub withdrawn_bytes : ℕ → ℕ → Bool → List ℕ → List ℕ
withdrawn_bytes newest end held area =
    cond held (put_entry (set area newest kind_withdrawn) end zero_entry) (set area newest kind_withdrawn)

abbrev pub withdrawn_area : List Entry → List ℕ → List ℕ
withdrawn_area es area =
    withdrawn_bytes (entry_offset area (newest_at es)) (entry_offset area (kept es)) (is_there (held_of es)) area

-- flag and negated advance of the last standing read over the one before
unfoldable pub withdrawn_answer : ℕ → Option Entry → Option Entry → Answer
withdrawn_answer n (Some r0) second =
    answer accepted r0.flag (neg_ℤ (advance_over n r0.value r0.flag second))
withdrawn_answer n None second = acceptance

unfoldable pub withdraw_in : ℕ → ℕ → List ℕ → Acted
withdraw_in day value area =
    cond (eqb (first_broken (withdraw_checks day value area)) accepted)
    (acted
    (Answered
    (withdrawn_answer
    (journal_of area).head.dials
    (slot_at (standing (journal_of area).entries) 0)
    (slot_at (standing (journal_of area).entries) 1)))
    (withdrawn_area (journal_of area).entries area))
    (refused (first_broken (withdraw_checks day value area)) area)

-- ---- Report
unfoldable pub report_in : List ℕ → Acted
report_in area =
    cond (eqb (first_broken (report_checks area)) accepted)
    (acted (Reported (report_of (journal_of area))) area)
    (acted (Reported (refused_report (first_broken (report_checks area)))) area)

-- ---- 02, 2: "Fold answers flag 0 and advance 0"
unfoldable pub fold_in : List ℕ → Acted
fold_in area =
    cond (eqb (first_broken (fold_checks area)) accepted)
    (acted (Answered acceptance) (area_for (folded_journal (journal_of area))))
    (refused (first_broken (fold_checks area)) area)

-- ---- 02, 7: "A trial takes the same arguments as a submission and gives the answer that the submission would give on a copy of the register.
-- The register given is not written."
unfoldable pub trial_in : Submission → List ℕ → Acted
trial_in s area = acted (submit_in s area).reply area

-- ---- a call on the area that it names
unfoldable pub act : Call → List ℕ → Acted
act (Enrol place profile dials capacity) area = enrol_in (plate_of profile dials capacity) area
act (Submit place read) area = submit_in read area
act (Withdraw place day value) area = withdraw_in day value area
act (ReportCall place) area = report_in area
act (Fold place) area = fold_in area
act (Trial place read) area = trial_in read area

unfoldable pub place_of : Call → ℕ
place_of (Enrol place profile dials capacity) = place
place_of (Submit place read) = place
place_of (Withdraw place day value) = place
place_of (ReportCall place) = place
place_of (Fold place) = place
place_of (Trial place read) = place

-- a refusal, in the form of the call's answer
unfoldable pub refusal_of : Call → ℕ → Reply
refusal_of (Enrol place profile dials capacity) number = Answered (refusal number)
refusal_of (Submit place read) number = Answered (refusal number)
refusal_of (Withdraw place day value) number = Answered (refusal number)
refusal_of (ReportCall place) number = Reported (refused_report number)
refusal_of (Fold place) number = Answered (refusal number)
refusal_of (Trial place read) number = Answered (refusal number)

-- ---- a call on the register: what it answers, and the register after it
pub record Done : Type 0 where
  pub reply : Reply
  pub register : List ℕ

abbrev pub done : Reply → List ℕ → Done
done reply register = record { reply = reply; register = register }

-- 2: "register length not 32,768"
unfoldable pub is_misfit : List ℕ → Bool
is_misfit register = not (eqb (length register) register_bytes)

-- 3: "place above 63"
unfoldable pub is_no_place : ℕ → List ℕ → Bool
is_no_place place register = leb (areas_in register) place

-- what every call checks first
unfoldable pub place_number : ℕ → List ℕ → ℕ
place_number place register =
    first_broken (rule misfit (is_misfit register) ∷ rule no_meter (is_no_place place register) ∷ [])

unfoldable pub on_area : ℕ → Acted → List ℕ → Done
on_area place after register = done after.reply (with_area place after.area register)

unfoldable pub step : Call → List ℕ → Done
step call register =
    cond (eqb (place_number (place_of call) register) accepted)
    (on_area (place_of call) (act call (area_of (place_of call) register)) register)
    (done (refusal_of call (place_number (place_of call) register)) register)

-- ---- "Journal (place): hands back the meter's part of the caller's own register, from its start to its last entry's end; length 0 where report
-- refuses."
unfoldable pub length_in : List ℕ → ℕ
length_in area = cond (eqb (first_broken (report_checks area)) accepted) (entry_offset area (entry_count area)) 0

unfoldable pub journal_length : ℕ → List ℕ → ℕ
journal_length place register =
    cond (eqb (place_number place register) accepted) (length_in (area_of place register)) 0

unfoldable pub journal_part : ℕ → List ℕ → List ℕ
journal_part place register = take (journal_length place register) (drop (area_bytes * place) register)
