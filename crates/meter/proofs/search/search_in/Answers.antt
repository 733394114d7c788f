-- The judgement decides the checks of a report, and what it counts of a sound journal is what the search asks for.
use mathlib.Core.List.{[]}
use Rattle.terms.proofs.Refusals.{refuses, passed_on}
use Rattle.calls.specs.Checks.{report_checks}
use Rattle.meter.specs.Search.{search_in}
use Rattle.meter.proofs.Judged.{refused_number, sound_number}
use Rattle.meter.proofs.search.search_in.Goals as goal

pub returns-in_err-judged : goal.returns-in_err-judged
unfolding search_in report_checks
returns-in_err-judged c = rw (passed_on _ c.from_residual.ensures.1, refused_number (λ j. []) _ c.requires c.in_err-judged.ensures, refuses)

pub returns : goal.returns
unfolding search_in report_checks
returns c = rw (sound_number (λ j. []) _ c.requires c.in_ok-judged.ensures, c.search_day.ensures, c.in_ok-judged.ensures.area_is)
