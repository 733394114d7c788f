-- The entries taken off do not stand.
use mathlib.Core.Path.{◌≡◌}
use Rattle.journal.specs.Journal.{entries_to, standing}
use Rattle.reads.proofs.recent.back.Given as goal

abbrev pub invariant-loop-k : goal.invariant-loop-k
invariant-loop-k l = standing (entries_to l.k l.body) ≡ standing (entries_to l.m l.body)
