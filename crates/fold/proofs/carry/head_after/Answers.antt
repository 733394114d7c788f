-- The plate is as it was, and the carry is the definition's.
use Rattle.judge.specs.Inner.Judged.{summary_of}
use Rattle.calls.specs.Fold.{head_after}
use Rattle.fold.proofs.carry.head_after.Goals as goal

pub returns : goal.returns
unfolding head_after summary_of
returns c = rw (c.carry_after.ensures, c.args.foldable.now.journal.counted.summary)
