-- 01, Calls: "Each answers number, flag, advance"; "Report (place) answers number, standing reads, flagged among them, and total".
use Rattle.std.specs.Prelude.{ℕ, ℤ, pos, Result, Ok, Err}
use Rattle.terms.specs.declared.answer.Accepted.{Accepted}
use Rattle.terms.specs.declared.answer.Answer.{Answer}
use Rattle.terms.specs.declared.answer.Report.{Report}
use Rattle.terms.specs.declared.answer.Totals.{Totals}
use Rattle.terms.specs.declared.refusal.Refusal.{Refusal}
use Rattle.terms.specs.Number.{accepted}
use Rattle.terms.specs.Refusal.{number_of}

abbrev pub answer : ℕ → ℕ → ℤ → Answer
answer number flag advance = record { number = number; flag = flag; advance = advance }

-- "zeros for an accepted enrolment"; 02, 2: "Fold answers flag 0 and advance 0"
abbrev pub acceptance : Answer
acceptance = answer accepted 0 (pos 0)

-- "Every number but 0 comes with zeros in the other fields"
abbrev pub refusal : ℕ → Answer
refusal number = answer number 0 (pos 0)

abbrev pub reported : ℕ → ℕ → ℕ → ℤ → Report
reported number standing flagged total =
    record { number = number; standing = standing; flagged = flagged; total = total }

abbrev pub refused_report : ℕ → Report
refused_report number = reported number 0 0 (pos 0)

-- what each answer says in numbers
abbrev pub as_answer : Result Accepted Refusal → Answer
as_answer (Ok a) = answer accepted a.flag a.advance
as_answer (Err r) = refusal (number_of r)

abbrev pub as_report : Result Totals Refusal → Report
as_report (Ok a) = reported accepted a.standing a.flagged a.total
as_report (Err r) = refused_report (number_of r)
