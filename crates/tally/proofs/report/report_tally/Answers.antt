-- A tally that reports counts no more reads than two bytes hold, and its total is that of its numbers.
use mathlib.Core.Path.{sym, ◌∙◌}
use native.Mathlib.Omega.{arith}
use borrow.Author.Rules.{sfits_of}
use mir.Syntax.{w64}
use mir.ValLaws.{to_z-of_z}
use Rattle.terms.proofs.Refusals.{refuses, passed_on}
use Rattle.tally.specs.Tally.{tally_total, tally_report}
use Rattle.tally.proofs.FitNumbers.{number_fits}
use Rattle.tally.proofs.report.report_tally.Goals as goal

pub returns-in_err-check_tally : goal.returns-in_err-check_tally
unfolding tally_report
returns-in_err-check_tally c = let number = c.in_err-check_tally.ensures in rw (passed_on _ c.from_residual.ensures.1, ← number, refuses)

pub overflow_cast-flagged : goal.overflow_cast-flagged
overflow_cast-flagged c = let f = number_fits _ (sym c.in_ok-check_tally.ensures) in omega (arith, f.fewer, f.few)

pub overflow_cast-result : goal.overflow_cast-result
overflow_cast-result c = let f = number_fits _ (sym c.in_ok-check_tally.ensures) in omega (arith, f.few)

pub returns : goal.returns
unfolding tally_report tally_total
returns c =
    let number = c.in_ok-check_tally.ensures in
    let sum = to_z-of_z w64 _ (sfits_of c.total.type_inv) ∙ c.total.ensures c.args.t.dials c.limit_of.ensures in
    rw (← number, sum)
