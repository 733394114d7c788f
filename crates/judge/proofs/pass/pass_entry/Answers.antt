-- The entry is compared with those before it, and the pass with it is that of one entry more.
use native.Mathlib.Omega.{arith}
use Rattle.judge.proofs.Runs.{run_small}
use Rattle.judge.proofs.Passes.{entry_more}
use Rattle.judge.proofs.pass.pass_entry.Goals as goal

pub pass_with-requires : goal.pass_with-requires
pass_with-requires c =
    let small = run_small c.args.pass.run _ _ c.requires.counted.1.run_is in
    (omega arith, small.1, small.2)

pub returns : goal.returns
returns c =
    let clear = c.compare-clear.ensures in
    entry_more c.args.body _ c.args.pass c.requires.counted.1 c.at-e.ensures c.requires.counted.0 clear.0 clear.1 _ c.pass_with.ensures
