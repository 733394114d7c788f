-- The index that the pass filled has every withdrawn entry.
use Rattle.judge.proofs.Passes.{passed_few}
use Rattle.judge.proofs.passed.pass_indexed.Goals as goal

pub has_withdrawn-withdrawn-requires : goal.has_withdrawn-withdrawn-requires
has_withdrawn-withdrawn-requires c = (passed_few c.args.body c.in_ok-pass.ensures.passed, c.in_ok-pass.ensures.indexed)
