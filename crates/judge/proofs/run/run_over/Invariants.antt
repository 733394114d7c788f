-- The run is that over the entries passed, and the withdrawn ones of them are in the index.
use Prim.Native.Nat.{◌≤◌}
use Rattle.judge.specs.Inner.Index.{Indexed}
use Rattle.judge.specs.Inner.Run.{ran_to}
use Rattle.judge.specs.Inner.Plain.{RunsTo}
use Rattle.judge.proofs.run.run_over.Given as goal

abbrev pub invariant-loop-k : goal.invariant-loop-k
invariant-loop-k l = (l.from.standing ≤ l.standing) × (l.standing ≤ l.k) × RunsTo l.body l.from (ran_to l.from l.k l.day l.newest l.standing) × Indexed l.body.bytes.now l.k l.index.buckets
