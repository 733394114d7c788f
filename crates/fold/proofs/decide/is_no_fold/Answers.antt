-- What was counted of the journal is what the definition asks for.
use Rattle.judge.specs.Inner.Judged.{counts_of, summary_of}
use Rattle.calls.specs.Checks.{is_no_fold}
use Rattle.fold.proofs.decide.is_no_fold.Goals as goal

pub returns : goal.returns
unfolding summary_of counts_of is_no_fold
returns c = rw c.args.journal.now.counted.summary
