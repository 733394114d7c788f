-- What was written so far is the text up to here, and each piece moves on in the sheet.
use Rattle.std.proofs.Common.{◌-◌, length}
use Rattle.readday.proofs.Written.{Written}
use Rattle.readday.proofs.write_text.Given as goal

abbrev pub invariant-loop-at : goal.invariant-loop-at
invariant-loop-at g l = Written l.sheet (g.W.Write.contents l.initial.output) (g.W.Write.contents l.output) l.register l.at

abbrev pub decreases-loop-at : goal.decreases-loop-at
decreases-loop-at g l = length l.sheet - l.at
