-- 01, Day sheet and its program: the calls that a sheet holds. "Kind byte, then body".
use Rattle.std.specs.Prelude.{Bool, true, false, cond, List, [], ◌∷◌, ℕ, zero, suc, ◌+◌, eqb, leb, ltb, length, Option, Some, None, find}
use Rattle.terms.specs.declared.profile.Profile.TheVariants.{Ordinary, Pseudo}
use Rattle.terms.specs.Number.{accepted, sheet_fault}
use Rattle.register.specs.Bytes.{byte_at, word_at, long_at}
use Rattle.calls.specs.declared.call.Call.{Call}
use Rattle.calls.specs.declared.call.Call.TheVariants as call
use Rattle.sheet.specs.declared.form.Form.{Form}
use Rattle.sheet.specs.declared.form.Form.TheVariants.{Enrol, Submit, Withdraw, Report, Fold}
use Rattle.sheet.specs.declared.split.Next.{Next}
use Rattle.sheet.specs.declared.split.Next.TheVariants.{Found, End, Fault}

-- ---- kinds and bodies, a row for each form

-- the paper's number for each form: "1 enrol", "2 submit", "3 withdraw", "4 report"; 02, 2: "sheet kind 5"; 02, 4: "sheet kind 6"
unfoldable pub kind_byte : Form → ℕ
kind_byte (Enrol Ordinary) = 1
kind_byte (Enrol Pseudo) = 6
kind_byte Submit = 2
kind_byte Withdraw = 3
kind_byte Report = 4
kind_byte Fold = 5

-- all of them
abbrev pub forms : List Form
forms = Enrol Ordinary ∷ Submit ∷ Withdraw ∷ Report ∷ Fold ∷ Enrol Pseudo ∷ []

-- how long a body is, field by field
abbrev pub body_bytes : Form → ℕ
body_bytes (Enrol profile) = 1 + 1 + 4
body_bytes Submit = 1 + 2 + 2 + 4 + 1 + 1 + 1
body_bytes Withdraw = 1 + 2 + 4
body_bytes Report = 1
body_bytes Fold = 1

-- the call of a body that starts at i
unfoldable pub call_at : Form → List ℕ → ℕ → Call
-- "1 enrol (place 1, dials 1, capacity 4)"; 02, 4: "sheet kind 6 enrols it"
call_at (Enrol profile) sheet i =
    call.Enrol (byte_at sheet i) profile (byte_at sheet (i + 1)) (long_at sheet (i + 2))
-- "2 submit (place 1, submission day 2, read day 2, value 4, type 1, indicator 1, re-read 1)"
call_at Submit sheet i =
    call.Submit (byte_at sheet i)
    (record {
      submitted = word_at sheet (i + 1);
      day = word_at sheet (i + 3);
      value = long_at sheet (i + 5);
      letter = byte_at sheet (i + 9);
      indicator = byte_at sheet (i + 10);
      reread = byte_at sheet (i + 11);
    })
-- "3 withdraw (place 1, day 2, value 4)"
call_at Withdraw sheet i = call.Withdraw (byte_at sheet i) (word_at sheet (i + 1)) (long_at sheet (i + 3))
-- "4 report (place 1)"
call_at Report sheet i = call.Report (byte_at sheet i)
-- 02, 2: "A fold (place; sheet kind 5)"
call_at Fold sheet i = call.Fold (byte_at sheet i)

-- ---- an entry

-- the form whose number a kind byte is, or none
unfoldable pub form_of : ℕ → Option Form
form_of byte = find (λ form. eqb byte (kind_byte form)) forms

-- an entry by its form, with the kind byte at `at`: the call of a body that is there whole, and where the next entry starts. A cut body and an
-- unknown kind are faults.
unfoldable pub entry_at : Option Form → List ℕ → ℕ → Next
entry_at (Some form) sheet at =
    let next = at + 1 + body_bytes form in
    cond (leb next (length sheet)) (Found (call_at form sheet (at + 1)) next) Fault
entry_at None sheet at = Fault

-- what stands at a position of a sheet: its end, a call, or a fault
unfoldable pub next_at : List ℕ → ℕ → Next
next_at sheet at = cond (leb (length sheet) at) End (entry_at (form_of (byte_at sheet at)) sheet at)

-- the paper's number for what stands there: 26 for "unknown kind, cut body", and for the rest none of its own
unfoldable pub next_number : Next → ℕ
next_number (Found call next) = accepted
next_number End = accepted
next_number Fault = sheet_fault

-- ---- a sheet

-- "over 60,000 bytes" is a fault
abbrev pub sheet_most : ℕ
sheet_most = 60000

-- the calls of a sheet in order, and whether a fault ends them
pub record Split : Type 0 where
  pub calls : List Call
  pub faulty : Bool

unfoldable pub go_on : Next → (ℕ → Split) → Split
go_on End rest = record { calls = []; faulty = false }
go_on Fault rest = record { calls = []; faulty = true }
go_on (Found call next) rest = record { calls = call ∷ (rest next).calls; faulty = (rest next).faulty }

-- an entry is at least two bytes long, so a sheet has no more entries than bytes
unfoldable pub split_from : ℕ → List ℕ → ℕ → Split
split_from zero sheet at = record { calls = []; faulty = false }
split_from (suc left) sheet at = go_on (next_at sheet at) (λ next. split_from left sheet next)

-- "an over-long sheet gives that line alone"
unfoldable pub split_of : List ℕ → Split
split_of sheet =
    cond (ltb sheet_most (length sheet))
    (record { calls = []; faulty = true })
    (split_from (suc (length sheet)) sheet 0)
