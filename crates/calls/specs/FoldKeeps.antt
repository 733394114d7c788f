-- 02, 2, Fold old reads: what stays as it was, although entries go.
use Rattle.std.specs.Prelude.{◌≡◌, Bool, true, false, ◌&&◌, ◌||◌, cond, List, ℕ, ◌<◌, eqb, leb, ltb}
use Rattle.terms.specs.declared.entry.Entry.{Entry}
use Rattle.terms.specs.declared.submission.Submission.{Submission}
use Rattle.terms.specs.Number.{accepted, missing, other_type, date, withdrawn_read, read_at, back_dated}
use Rattle.register.specs.declared.head.Head.{Head}
use Rattle.register.specs.Area.{areas_in, area_of}
use Rattle.journal.specs.Journal.{journal_of}
use Rattle.calls.specs.declared.call.Call.{Call}
use Rattle.calls.specs.declared.call.Call.TheVariants.{Submit, Report as ReportCall, Fold}
use Rattle.calls.specs.Checks.{is_missing, is_bad_content, is_other_type, is_bad_date, is_withdrawn_read}
use Rattle.calls.specs.Calls.{step}
use Rattle.calls.specs.Fold.{kept_from}
use Rattle.calls.specs.Play.{register_after, zero_register, number_of}
use Rattle.calls.specs.Ledger.{named, ledger_of, is_among}
use Rattle.calls.specs.DemandThree.{run_a}

-- "Report .. count the carry": after a fold, accepted or refused, a report is what it was before, at every place and on EVERY register
unfoldable pub FoldsKeepReports : Type 0
FoldsKeepReports =
    (place asked : ℕ) (register : List ℕ) → (step (ReportCall asked) (step (Fold place) register).register).reply ≡ (step (ReportCall asked) register).reply

-- ---- "a resubmission that was 8 before is one of 9 to 12 from then on"
-- what a submission is answered at a meter, and the journal there
abbrev pub answered : ℕ → Submission → List ℕ → ℕ
answered meter s register = number_of (step (Submit meter s) register).reply

abbrev pub entries_at : ℕ → List ℕ → List Entry
entries_at meter register = (journal_of (area_of meter register)).entries

-- "one of 9 to 12"
unfoldable pub is_out_by_day : ℕ → Bool
is_out_by_day number = leb read_at number && leb number back_dated

-- that, or 8
unfoldable pub is_kept_out : ℕ → Bool
is_kept_out number = eqb number withdrawn_read || is_out_by_day number

-- a resubmission that was 8 before an accepted fold
pub record FoldKeepsOut (place : ℕ) (s : Submission) (before after : List ℕ) : Type 0 where
  -- "Withdrawn entries dated no later than the oldest kept read go too", and no others
  pub goes : is_withdrawn_read s (entries_at place after) ≡ ltb (kept_from (entries_at place before)) s.day
  -- where its entry went it "is one of 9 to 12 from then on", after EVERY list of calls; and else 8 as before
  pub gone : is_withdrawn_read s (entries_at place after) ≡ false → (calls : List Call) → is_out_by_day (answered place s (register_after calls after)) ≡ true
  pub there : is_withdrawn_read s (entries_at place after) ≡ true → answered place s after ≡ withdrawn_read

-- on EVERY register
unfoldable pub FoldsKeepOut : Type 0
FoldsKeepOut =
    (place : ℕ) (s : Submission) (register : List ℕ)
    → answered place s register ≡ withdrawn_read
    → number_of (step (Fold place) register).reply ≡ accepted
    → FoldKeepsOut place s register (step (Fold place) register).register

-- so what was once 8 is one of 8 to 12, on EVERY register and after EVERY list of calls
unfoldable pub ResubmissionsStayOut : Type 0
ResubmissionsStayOut =
    (meter : ℕ) (s : Submission) (register : List ℕ) (calls : List Call)
    → answered meter s register ≡ withdrawn_read
    → is_kept_out (answered meter s (register_after calls register)) ≡ true

-- ---- 5, 6, 29 and 7 come before 8: something is wrong with a submission by itself, or for the meter that it is sent to
unfoldable pub is_wrong_by_itself : Head → Submission → Bool
is_wrong_by_itself head s = is_missing s || (is_bad_content head.dials s || (is_other_type head.profile s || is_bad_date s))

unfoldable pub is_wrong_number : ℕ → Bool
is_wrong_number number = leb missing number && leb number date || eqb number other_type

-- a read that an accepted withdrawal named is one of 8 to 12 whenever it is sent again with nothing else wrong, after EVERY list of calls
unfoldable pub WithdrawnStayOut : Type 0
WithdrawnStayOut =
    (meter : ℕ) → meter < areas_in zero_register → (calls : List Call) (s : Submission)
    → is_among (named s.day s.value) (ledger_of meter (run_a calls)).withdrawn ≡ true
    → let register = register_after calls zero_register in
    let number = answered meter s register in
    cond (is_wrong_by_itself (journal_of (area_of meter register)).head s) (is_wrong_number number) (is_kept_out number) ≡ true
