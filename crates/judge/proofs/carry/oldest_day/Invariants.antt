-- None of the entries passed stands; the first that does is the oldest of all.
use mathlib.Core.Path.{◌≡◌}
use mathlib.Core.List.{[]}
use Rattle.journal.specs.Journal.{standing}
use Rattle.judge.specs.Inner.Run.{firsts}
use Rattle.judge.proofs.carry.oldest_day.Given as goal

abbrev pub invariant-loop-k : goal.invariant-loop-k
invariant-loop-k l = standing (firsts l.body l.k) ≡ []
