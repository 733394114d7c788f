-- Each part is that of the entries passed.
use Rattle.judge.proofs.Newest.{summary_is}
use Rattle.judge.proofs.area.summary_of.Goals as goal

pub returns : goal.returns
returns c = λ is. summary_is c.args.body.head _ c.args.pass is.same is.ordered c.kept_of-kept.ensures c.last_value-last.ensures c.args.body.limit_is
