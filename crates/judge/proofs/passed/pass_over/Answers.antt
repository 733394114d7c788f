-- A journal of nothing but the reads that it opens with has none withdrawn; any other is passed with an index.
use mathlib.Core.Path.{sym}
use Rattle.judge.proofs.Runs.{none_withdrawn}
use Rattle.judge.proofs.Passes.{all_passed}
use Rattle.judge.proofs.passed.pass_over.Goals as goal

pub returns-then-is_end : goal.returns-then-is_end
returns-then-is_end c =
    let is = c.open_over-pass.ensures in
    (all_passed c.args.body _ is.pass is.goes (c.is_end.ensures c.if-is_end.true), sym (none_withdrawn _ _ _ is.none))
