-- 01, Calls, Withdraw: the decision on a withdrawal, apart from the writing.
use Rattle.std.specs.Prelude.{◌≡◌, List, ℕ, Result, Ok, Err}
use Rattle.terms.specs.declared.answer.Answer.{Answer}
use Rattle.terms.specs.declared.refusal.Refusal.{Refusal}
use Rattle.terms.specs.Answer.{as_answer}
use Rattle.terms.specs.Entry.{slot_at}
use Rattle.journal.specs.Journal.{journal_of, standing}
use Rattle.calls.specs.declared.call.Reply.TheVariants.{Answered}
use Rattle.calls.specs.Calls.{acted, withdrawn_bytes, withdrawn_area, withdrawn_answer, withdraw_in}
use Rattle.meter.specs.declared.withdraw.Withdrawal.{Withdrawal}

-- what it changes and answers: the last standing read is marked, a held one is zeroed
pub record Withdraws (area : List ℕ) (w : Withdrawal) : Type 0 where
  pub bytes_are : withdrawn_bytes w.newest w.end w.held area ≡ withdrawn_area (journal_of area).entries area
  pub answer_is : as_answer (Ok w.answer) ≡ withdrawn_answer (journal_of area).head.dials (slot_at (standing (journal_of area).entries) 0) (slot_at (standing (journal_of area).entries) 1)

-- the number and values of a decision
abbrev pub decided_answer : Result Withdrawal Refusal → Answer
decided_answer (Ok w) = as_answer (Ok w.answer)
decided_answer (Err r) = as_answer (Err r)

-- the area after it
abbrev pub decided_area : Result Withdrawal Refusal → List ℕ → List ℕ
decided_area (Ok w) area = withdrawn_bytes w.newest w.end w.held area
decided_area (Err r) area = area

-- what is decided is what the call answers and leaves
pub record Decides (day value : ℕ) (area : List ℕ) (d : Result Withdrawal Refusal) : Type 0 where
  pub decision_is : acted (Answered (decided_answer d)) (decided_area d area) ≡ withdraw_in day value area
