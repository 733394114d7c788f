-- The run to a count and a day is that over the entries passed, which all stand.
use mathlib.Core.Path.{◌≡◌}
use mathlib.Core.List.{[]}
use Prim.Native.Nat.{◌-◌, ◌≤◌}
use Rattle.journal.specs.Journal.{withdrawn}
use Rattle.judge.specs.Inner.Run.{firsts, ran_to}
use Rattle.judge.specs.Inner.Plain.{RunsTo}
use Rattle.judge.proofs.run.plain_over.Given as goal

abbrev pub invariant-loop-k : goal.invariant-loop-k
invariant-loop-k l = (l.from.count ≤ l.k) × (l.k ≤ l.body.most) × RunsTo l.body l.from (ran_to l.from l.k l.day (l.k - 1) l.k) × (withdrawn (firsts l.body l.k) ≡ [])

abbrev pub decreases-loop-k : goal.decreases-loop-k
decreases-loop-k l = l.body.most - l.k
