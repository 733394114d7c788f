-- The judgement decides the definition's two checks; of a sound journal its counts and its total are the report's.
use mathlib.Core.List.{[]}
use Rattle.terms.proofs.Refusals.{refuses, passed_on}
use Rattle.calls.specs.Checks.{report_checks}
use Rattle.calls.specs.Calls.{report_in}
use Rattle.meter.proofs.Judged.{refused_number, sound_number}
use Rattle.meter.proofs.report.report_area.Goals as goal

pub returns-in_err-judged : goal.returns-in_err-judged
unfolding report_in report_checks
returns-in_err-judged c = rw (passed_on _ c.from_residual.ensures.1, refused_number (λ j. []) _ c.requires c.in_err-judged.ensures, refuses)

pub returns : goal.returns
unfolding report_in report_checks
returns c = rw (sound_number (λ j. []) _ c.requires c.in_ok-judged.ensures, c.totals_of.ensures, c.in_ok-judged.ensures.area_is)
