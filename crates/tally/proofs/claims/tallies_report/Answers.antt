-- The claim is the law about a tally over a list of calls.
use Rattle.tally.proofs.Runs.{tallies_report}
use Rattle.tally.proofs.claims.tallies_report.Goals as goal

pub returns : goal.returns
returns c = tallies_report
