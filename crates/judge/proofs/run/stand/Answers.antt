-- What one more entry changes is `run_more`.
use mathlib.Core.Path.{refl}
use borrow.Author.Tests.{eq-eqb, ne_eqb}
use Rattle.judge.proofs.Runs.{run_more}
use Rattle.judge.proofs.run.stand.Goals as goal
use Rattle.judge.proofs.run.stand.Goals.{then-run-eq0, else-run-eq0}

pub returns : goal.returns
returns c =
    elim c.if-run-eq0.branch [
      | then-run-eq0 w ↦ rw w.result-is (refl, λ es s flagged h. rw (run_more, ← h, s, flagged, eq-eqb _ _ w.if-run-eq0.true))
      | else-run-eq0 w ↦ rw w.result-is (refl, λ es s flagged h. rw (run_more, ← h, s, flagged, ne_eqb _ _ w.if-run-eq0.false))
    ]
