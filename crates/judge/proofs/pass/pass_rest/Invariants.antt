-- What is passed is in order, and its withdrawn entries are in the index.
use mathlib.Core.Path.{◌≡◌}
use Prim.Native.Nat.{◌-◌}
use Rattle.journal.specs.Journal.{count_from}
use Rattle.judge.specs.Inner.Index.{Indexed}
use Rattle.judge.specs.Inner.Run.{IsRun}
use Rattle.judge.specs.Inner.Pass.{IsPass}
use Rattle.judge.proofs.pass.pass_rest.Given as goal

abbrev pub invariant-loop-pass : goal.invariant-loop-pass
invariant-loop-pass l = IsRun l.body l.pass.run × IsPass l.body.head l.body.bytes.now l.pass × (count_from (l.body.most - l.pass.run.count) l.pass.run.count l.body.bytes.now ≡ count_from l.body.most 0 l.body.bytes.now) × Indexed l.body.bytes.now l.pass.run.count l.index.buckets

abbrev pub decreases-loop-pass : goal.decreases-loop-pass
decreases-loop-pass l = l.body.most - l.pass.run.count
