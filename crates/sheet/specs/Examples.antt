-- 01, Day sheet and its program: entries as bytes, one of each kind. No two bytes of an entry are alike, so that each field has its place and
-- its order of bytes.
use Rattle.std.specs.Prelude.{◌≡◌, true, false, List, [], ◌∷◌, ◌++◌, ℕ, suc, ◌-◌, length, take}
use Rattle.terms.specs.declared.profile.Profile.TheVariants.{Ordinary, Pseudo}
use Rattle.calls.specs.declared.call.Call.TheVariants as call
use Rattle.sheet.specs.declared.split.Next.{Next}
use Rattle.sheet.specs.declared.split.Next.TheVariants.{Found, End, Fault}
use Rattle.sheet.specs.Sheet.{next_at, next_number, split_from, split_of}

-- ---- the entries

-- "1 enrol (place 1, dials 1, capacity 4)"
abbrev pub enrolment : List ℕ
enrolment = 1 ∷ 11 ∷ 12 ∷ 13 ∷ 14 ∷ 15 ∷ 16 ∷ []

-- "2 submit (place 1, submission day 2, read day 2, value 4, type 1, indicator 1, re-read 1)"
abbrev pub submission : List ℕ
submission = 2 ∷ 21 ∷ 22 ∷ 23 ∷ 24 ∷ 25 ∷ 26 ∷ 27 ∷ 28 ∷ 29 ∷ 30 ∷ 31 ∷ 32 ∷ []

-- "3 withdraw (place 1, day 2, value 4)"
abbrev pub withdrawal : List ℕ
withdrawal = 3 ∷ 41 ∷ 42 ∷ 43 ∷ 44 ∷ 45 ∷ 46 ∷ 47 ∷ []

-- "4 report (place 1)"
abbrev pub report : List ℕ
report = 4 ∷ 51 ∷ []

-- 02, 2: "A fold (place; sheet kind 5)"
abbrev pub fold : List ℕ
fold = 5 ∷ 52 ∷ []

-- 02, 4: "sheet kind 6 enrols it"
abbrev pub pseudo_enrolment : List ℕ
pseudo_enrolment = 6 ∷ 61 ∷ 62 ∷ 63 ∷ 64 ∷ 65 ∷ 66 ∷ []

-- ---- how they are read

-- an entry with a byte after it, and one whose last byte is cut
abbrev pub read : List ℕ → Next
read entry = next_at (entry ++ (1 ∷ [])) 0

abbrev pub read_cut : List ℕ → Next
read_cut entry = next_at (take (length entry - 1) entry) 0

-- THE CLAIM: one row for each example
pub record ExamplesHold : Type 0 where
  pub enrolled : read enrolment ≡ Found (call.Enrol 11 Ordinary 12 269422093) 7
  pub submitted : read submission ≡ Found (call.Submit 21 (record { submitted = 5910; day = 6424; value = 488381210; letter = 30; indicator = 31; reread = 32 })) 13
  pub withdrawn : read withdrawal ≡ Found (call.Withdraw 41 11050 791555372) 8
  pub reported : read report ≡ Found (call.Report 51) 2
  pub folded : read fold ≡ Found (call.Fold 52) 2
  pub pseudo_enrolled : read pseudo_enrolment ≡ Found (call.Enrol 61 Pseudo 62 1111572543) 7
  -- "unknown kind, cut body"
  pub enrolment_cut : read_cut enrolment ≡ Fault
  pub submission_cut : read_cut submission ≡ Fault
  pub withdrawal_cut : read_cut withdrawal ≡ Fault
  pub report_cut : read_cut report ≡ Fault
  pub fold_cut : read_cut fold ≡ Fault
  pub pseudo_enrolment_cut : read_cut pseudo_enrolment ≡ Fault
  pub kind_0 : read (0 ∷ submission) ≡ Fault
  pub kind_7 : read (7 ∷ submission) ≡ Fault
  pub fault_number : next_number Fault ≡ 26
  -- an entry after another, whole to the last byte of the sheet; and the end
  pub second : next_at (report ++ withdrawal) 2 ≡ Found (call.Withdraw 41 11050 791555372) 10
  pub at_the_end : next_at (report ++ withdrawal) 10 ≡ End
  pub empty : next_at [] 0 ≡ End
  -- the calls before a fault are held
  pub no_fault : split_of (report ++ fold) ≡ record { calls = call.Report 51 ∷ call.Fold 52 ∷ []; faulty = false }
  pub third_a_fault : split_of (report ++ (fold ++ (7 ∷ report))) ≡ record { calls = call.Report 51 ∷ call.Fold 52 ∷ []; faulty = true }
  -- "over 60,000 bytes": 60,000 are allowed, and 60,001 are not
  pub longest : (sheet : List ℕ) → length sheet ≡ 60000 → split_of sheet ≡ split_from (suc (length sheet)) sheet 0
  pub too_long : (sheet : List ℕ) → length sheet ≡ 60001 → split_of sheet ≡ record { calls = []; faulty = true }
