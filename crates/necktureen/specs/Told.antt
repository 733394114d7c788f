-- 02, 6, A standing tally: what a program in C tells of a call and its reply, and that a tally which is told no more is kept as the paper says. A
-- call is told by its kind in a day sheet, an enrolment's dials and a submission's value.
use Rattle.std.specs.Prelude.{◌≡◌, Bool, true, false, List, [], ◌∷◌, ℕ, ℤ, length, Option, Some, None}
use Rattle.terms.specs.declared.answer.Answer.{Answer}
use Rattle.terms.specs.Answer.{answer}
use Rattle.calls.specs.declared.call.Call.{Call}
use Rattle.calls.specs.declared.call.Call.TheVariants as call
use Rattle.calls.specs.declared.call.Reply.{Reply}
use Rattle.calls.specs.declared.call.Reply.TheVariants.{Answered, Reported}
use Rattle.calls.specs.Calls.{step}
use Rattle.calls.specs.Play.{Exchange, exchange, register_after, zero_register, number_of, names}
use Rattle.calls.specs.DemandThree.{run_a}
use Rattle.sheet.specs.declared.form.Form.{Form}
use Rattle.sheet.specs.declared.form.Form.TheVariants.{Enrol, Submit, Withdraw, Report, Fold}
use Rattle.sheet.specs.Sheet.{kind_byte, form_of}
use Rattle.tally.specs.declared.tally.Tally.{Tally}
use Rattle.tally.specs.Tally.{zero_tally, tally_report}
use Rattle.tally.specs.Change.{tally_after}
use Rattle.tally.specs.Kept.{are_dated}

-- the call that is told: a tally asks for none of the fields that are 0 here
unfoldable pub told_call : Form → ℕ → ℕ → Call
told_call (Enrol profile) dials value = call.Enrol 0 profile dials 0
told_call Submit dials value =
    call.Submit 0 (record { submitted = 0; day = 0; value = value; letter = 0; indicator = 0; reread = 0 })
told_call Withdraw dials value = call.Withdraw 0 0 0
told_call Report dials value = call.Report 0
told_call Fold dials value = call.Fold 0

-- the tally after a call of this kind; an unknown kind changes nothing
unfoldable pub told_kind : Option Form → ℕ → ℕ → Answer → Tally → Tally
told_kind (Some form) dials value a t = tally_after (told_call form dials value) (Answered a) t
told_kind None dials value a t = t

unfoldable pub told_of : ℕ → ℕ → ℕ → ℕ → ℕ → ℤ → Tally → Tally
told_of kind dials value number flag advance t = told_kind (form_of kind) dials value (answer number flag advance) t

-- ---- what there is to tell. Where there is nothing, as of the dials of a submission, a program may tell any number: none is looked at.
pub record Told : Type 0 where
  pub kind : ℕ
  pub dials : ℕ
  pub value : ℕ
  pub number : ℕ
  pub flag : ℕ
  pub advance : ℤ

abbrev pub told : ℕ → ℕ → ℕ → ℕ → ℕ → ℤ → Told
told kind dials value number flag advance =
    record { kind = kind; dials = dials; value = value; number = number; flag = flag; advance = advance }

-- A trial has no kind: 0, which is none, tells of nothing.
unfoldable pub kind_told : Call → ℕ
kind_told (call.Enrol place profile dials capacity) = kind_byte (Enrol profile)
kind_told (call.Submit place s) = kind_byte Submit
kind_told (call.Withdraw place day value) = kind_byte Withdraw
kind_told (call.Report place) = kind_byte Report
kind_told (call.Fold place) = kind_byte Fold
kind_told (call.Trial place s) = 0

unfoldable pub dials_of : Call → ℕ → ℕ
dials_of (call.Enrol place profile dials capacity) any = dials
dials_of (call.Submit place s) any = any
dials_of (call.Withdraw place day value) any = any
dials_of (call.Report place) any = any
dials_of (call.Fold place) any = any
dials_of (call.Trial place s) any = any

unfoldable pub value_of : Call → ℕ → ℕ
value_of (call.Enrol place profile dials capacity) any = any
value_of (call.Submit place s) any = s.value
value_of (call.Withdraw place day value) any = any
value_of (call.Report place) any = any
value_of (call.Fold place) any = any
value_of (call.Trial place s) any = any

unfoldable pub flag_told : Reply → ℕ → ℕ
flag_told (Answered a) any = a.flag
flag_told (Reported r) any = any

unfoldable pub advance_told : Reply → ℤ → ℤ
advance_told (Answered a) any = a.advance
advance_told (Reported r) any = any

unfoldable pub exchange_told : Exchange → Told → Told
exchange_told x any =
    told
    (kind_told x.call)
    (dials_of x.call any.dials)
    (value_of x.call any.value)
    (number_of x.reply)
    (flag_told x.reply any.flag)
    (advance_told x.reply any.advance)

-- the tally after it
unfoldable pub told_by : Told → Tally → Tally
told_by said t = told_of said.kind said.dials said.value said.number said.flag said.advance t

-- THE CLAIM for one call, on every register: that is enough. The tally is changed as by the call itself and its reply.
unfoldable pub ToldIsEnough : Type 0
ToldIsEnough =
    (c : Call) (register : List ℕ) (any : Told) (t : Tally)
    → told_by (exchange_told (exchange c (step c register).reply) any) t ≡ tally_after c (step c register).reply t

-- ---- "after every answered call on that meter": what is told over a list. What is told where there is nothing to tell may be another each time:
-- `any` goes by how many calls follow.
abbrev pub told_if : Bool → Told → List Told → List Told
told_if true said rest = said ∷ rest
told_if false said rest = rest

unfoldable pub all_told : ℕ → (ℕ → Told) → List Exchange → List Told
all_told meter any [] = []
all_told meter any (x ∷ xs) =
    told_if (names meter x.call) (exchange_told x (any (length xs))) (all_told meter any xs)

unfoldable pub told_over : List Told → Tally → Tally
told_over [] t = t
told_over (said ∷ rest) t = told_over rest (told_by said t)

-- THE CLAIM for a list: as a program in C keeps it too, "from an all-zero register and tally, a report from it always equals a full report, after
-- folds and withdrawals too"
unfoldable pub ToldTalliesReport : Type 0
ToldTalliesReport =
    (meter : ℕ) (any : ℕ → Told) (calls : List Call) → are_dated calls ≡ true
    → Reported (tally_report (told_over (all_told meter any (run_a calls)) zero_tally)) ≡ (step (call.Report meter) (register_after calls zero_register)).reply
