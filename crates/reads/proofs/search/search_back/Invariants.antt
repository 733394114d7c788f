-- What is left of the search goes on where the entries passed have ended.
use mathlib.Core.Path.{◌≡◌}
use Prim.Native.Nat.{◌+◌, ◌≤◌}
use Rattle.journal.specs.Journal.{entries_to, standing}
use Rattle.reads.specs.Search.{search_from}
use Rattle.reads.proofs.search.search_back.Given as goal

abbrev pub invariant-loop-k : goal.invariant-loop-k
invariant-loop-k l = (l.later + l.k ≤ l.m) × (search_from l.day l.later (standing (entries_to l.k l.body)) ≡ search_from l.day 0 (standing (entries_to l.m l.body)))
