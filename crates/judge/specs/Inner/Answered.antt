-- What a judgement answers: a sound journal, or why there is none.
use Rattle.std.specs.Prelude.{◌≡◌, List, ℕ, length, Result, Ok, Err, IfOk}
use Rattle.terms.specs.declared.refusal.Refusal.{Refusal}
use Rattle.terms.specs.Refusal.{number_in}
use Rattle.terms.specs.Rule.{first_broken}
use Rattle.register.specs.Area.{area_bytes}
use Rattle.journal.specs.Journal.{journal_of, entries_to, withdrawn}
use Rattle.journal.specs.Numbers.{area_rules}
use Rattle.journal.specs.Sound.{any, has_read}
use Rattle.judge.specs.declared.area.Found.{Found}
use Rattle.judge.specs.declared.area.Summary.{Summary}
use Rattle.judge.specs.declared.sound.Judged.{Judged}
use Rattle.judge.specs.Inner.Judged.{judged}

-- what was counted of a body, and the answer about a read
abbrev pub counted_in : Result Found Refusal → Result Summary Refusal
counted_in (Ok found) = Ok found.summary
counted_in (Err r) = Err r

pub record Answers (found : Result Summary Refusal) (body : List ℕ) (day value : ℕ) (r : Result Found Refusal) : Type 0 where
  pub found_is : counted_in r ≡ found
  pub withdrawn_is : IfOk r (λ f. f.withdrawn ≡ any (has_read day value) (withdrawn (entries_to f.summary.entries body)))

-- the same of an area, and with it the area's number
abbrev pub summary_in : Result Judged Refusal → Result Summary Refusal
summary_in (Ok j) = Ok j.journal.summary
summary_in (Err r) = Err r

pub record Judges (area : List ℕ) (day value : ℕ) (r : Result Judged Refusal) : Type 0 where
  pub found_is : summary_in r ≡ judged area
  pub number_is : length area ≡ area_bytes → number_in r ≡ first_broken (area_rules area)
  pub area_is : IfOk r (λ j. j.journal.area.now ≡ area)
  pub withdrawn_is : IfOk r (λ j. j.withdrawn ≡ any (has_read day value) (withdrawn (journal_of area).entries))
