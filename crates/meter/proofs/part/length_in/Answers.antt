-- The judgement of the area decides the definition's checks, and counts the journal's entries.
use mathlib.Core.List.{[]}
use Rattle.register.specs.Head.{entry_offset}
use Rattle.journal.specs.Journal.{journal_of}
use Rattle.judge.specs.Inner.Judged.{summary_of}
use Rattle.journal.proofs.Entries.{length_entries}
use Rattle.terms.proofs.Refusals.{refuses}
use Rattle.calls.specs.Checks.{report_checks}
use Rattle.calls.specs.Calls.{length_in}
use Rattle.meter.proofs.Judged.{refused_number, sound_number}
use Rattle.meter.proofs.part.length_in.Goals as goal

pub returns-in-Err : goal.returns-in-Err
unfolding length_in report_checks
returns-in-Err c = rw (refused_number (λ j. []) _ c.requires (rw c.in-Err.is at c.judge_area.ensures), refuses)

pub returns-in-Ok : goal.returns-in-Ok
unfolding length_in report_checks summary_of journal_of entry_offset
returns-in-Ok c =
    let is = rw c.in-Ok.is at c.judge_area.ensures in
    rw (sound_number (λ j. []) _ c.requires is, c.offset_after.ensures, c.in-Ok.judged.journal.counted.summary, length_entries, is.area_is)
