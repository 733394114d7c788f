-- The claim is the law about a report after a fold.
use Rattle.calls.proofs.ReportKept.{folds_keep_reports}
use Rattle.calls.proofs.claims.folds_keep_reports.Goals as goal

pub returns : goal.returns
returns c = folds_keep_reports
