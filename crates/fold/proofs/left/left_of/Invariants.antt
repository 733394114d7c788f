-- What is written is what stays of the entries passed.
use Rattle.terms.specs.Entry.{those}
use Rattle.journal.specs.Journal.{entries_to}
use Rattle.calls.specs.Fold.{stays}
use Rattle.fold.specs.Inner.Left.{Holds}
use Rattle.fold.proofs.left.left_of.Given as goal

abbrev pub invariant-loop-k : goal.invariant-loop-k
invariant-loop-k l = Holds l.fn.head (those (stays l.oldest) (entries_to l.k l.body)) l.left
