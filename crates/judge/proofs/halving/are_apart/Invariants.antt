-- The withdrawn ones of the entries passed are apart from all standing ones.
use mathlib.Core.Path.{◌≡◌}
use mathlib.Core.Bool.{true}
use Rattle.journal.specs.Journal.{standing, withdrawn}
use Rattle.journal.specs.Sound.{are_apart}
use Rattle.judge.specs.Inner.Run.{firsts}
use Rattle.judge.proofs.halving.are_apart.Given as goal

abbrev pub invariant-loop-k : goal.invariant-loop-k
invariant-loop-k l = are_apart (standing (firsts l.body l.m)) (withdrawn (firsts l.body l.k)) ≡ true
