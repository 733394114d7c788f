-- What is kept is the definition's over the entries passed.
use mathlib.Core.Path.{◌≡◌}
use Rattle.terms.specs.Entry.{recent_of}
use Rattle.journal.specs.Journal.{entries_to, standing}
use Rattle.fold.proofs.kept.kept_of.Given as goal

abbrev pub invariant-loop-k : goal.invariant-loop-k
invariant-loop-k l = l.kept ≡ recent_of (standing (entries_to l.k l.body))
