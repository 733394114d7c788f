use Rattle.terms.specs.Entry.{slot_at}
use Rattle.judge.specs.Inner.Judged.{value_of}
use Rattle.judge.proofs.Newest.{none_standing, run_newest, run_below}
use Rattle.judge.proofs.area.last_value.Goals as goal

pub returns-then-run-eq0 : goal.returns-then-run-eq0
unfolding value_of slot_at
returns-then-run-eq0 c = rw (none_standing c.args.run _ c.requires.run_is c.if-run-eq0.true)

pub at-e-requires : goal.at-e-requires
at-e-requires c = run_below c.args.run _ c.requires.run_is c.requires.few c.if-run-eq0.false

pub returns : goal.returns
unfolding value_of slot_at
returns c = rw (run_newest c.args.run _ c.requires.run_is c.if-run-eq0.false, c.at-e.ensures)
