-- Where the pass says that they are apart they are.
use mathlib.Core.Path.{sym, ◌∙◌}
use Rattle.journal.proofs.InOrder.{days_rise_lem}
use Rattle.judge.proofs.Passes.{pass_run}
use Rattle.judge.proofs.Runs.{run_day}
use Rattle.judge.proofs.apart.is_apart.Goals as goal

pub returns-then-pass : goal.returns-then-pass
returns-then-pass c = c.if-pass.true ∙ sym (c.requires.1.apart c.if-pass.true)

pub are_apart-requires : goal.are_apart-requires
are_apart-requires c =
    let is = c.requires.1 in
    record { room = c.requires.0; last_day = run_day _ (pass_run _ _ is.same); rising = days_rise_lem c.args.body.head _ is.ordered }
