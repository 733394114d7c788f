-- One line more with each place.
use Rattle.std.proofs.Common.{arith}
use Rattle.journals.proofs.Lines.{lines_begun, line_more, lines_ended}
use Rattle.journals.proofs.print_journals.Goals as goal

pub loop-place-init : goal.loop-place-init
loop-place-init g c = lines_begun _ c.args.register.now

pub loop-place-preserved : goal.loop-place-preserved
loop-place-preserved g c =
    line_more _ _ _ _ _ c.args.register.now c.journal.ensures.bytes_are c.loop-place.invariant c.in_ok-print_journal.ensures

pub returns : goal.returns
returns g c = lines_ended _ _ c.loop-place.place c.args.register.now (omega arith) c.loop-place.invariant
