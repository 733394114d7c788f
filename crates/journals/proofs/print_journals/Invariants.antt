-- What was written so far is the lines of the places so far.
use Rattle.std.specs.Io.KnownBytes.{Appends}
use Rattle.journals.specs.Text.{lines_below}
use Rattle.journals.proofs.print_journals.Given as goal

abbrev pub invariant-loop-place : goal.invariant-loop-place
invariant-loop-place g l =
    Appends (g.W.Write.contents l.initial.output) (g.W.Write.contents l.output) (lines_below l.place l.register)
