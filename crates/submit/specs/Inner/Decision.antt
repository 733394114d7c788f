-- The decision on a submission, apart from the writing.
use Rattle.std.specs.Prelude.{cond, List, ◌++◌, ℕ, eqb, Result, Ok, Err}
use Rattle.terms.specs.declared.refusal.Refusal.{Refusal}
use Rattle.terms.specs.declared.submission.Submission.{Submission}
use Rattle.terms.specs.Answer.{answer, as_answer}
use Rattle.terms.specs.Entry.{kind_standing, kind_held}
use Rattle.terms.specs.Number.{accepted}
use Rattle.terms.specs.Refusal.{number_of}
use Rattle.terms.specs.Rule.{Rule}
use Rattle.register.specs.Entries.{put_entry}
use Rattle.journal.specs.Journal.{Journal, journal_of}
use Rattle.calls.specs.declared.call.Reply.TheVariants.{Answered}
use Rattle.calls.specs.Checks.{content_rules, same_day_rules, order_rules, indicator_rules, volume_rules, taken_flag}
use Rattle.calls.specs.Calls.{Acted, acted, refused, written, is_volume_query, submitted_advance}
use Rattle.submit.specs.declared.decide.Decision.{Decision}

-- a decision carried out: what is answered, and the area with the read that is written
abbrev pub carried_out : Result Decision Refusal → List ℕ → Acted
carried_out (Ok d) area = acted (Answered (as_answer d.answer)) (put_entry area d.at d.entry)
carried_out (Err refusal) area = refused (number_of refusal) area

-- `submit_in` by the number of the first rule broken
unfoldable pub submitted : Submission → List ℕ → ℕ → Acted
submitted s area number =
    cond (eqb number accepted)
    (acted
    (Answered (answer accepted (taken_flag s (journal_of area)) (submitted_advance s (journal_of area))))
    (written kind_standing s area))
    (cond (is_volume_query number)
    (refused number (written kind_held s area))
    (refused number area))

-- 1, 5 to 16 and 29: what is asked of a read before detection
unfoldable pub checked_rules : Submission → Journal → List Rule
checked_rules s j = content_rules s j ++ (same_day_rules s j ++ order_rules s j)

-- 17 to 21: what is asked once the read is in order
unfoldable pub judged_rules : Submission → Journal → List Rule
judged_rules s j = indicator_rules s j ++ volume_rules s j
