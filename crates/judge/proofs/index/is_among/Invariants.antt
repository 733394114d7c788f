-- None of the entries passed is it.
use mathlib.Core.Path.{◌≡◌}
use mathlib.Core.Bool.{false}
use Rattle.journal.specs.Journal.{withdrawn}
use Rattle.journal.specs.Sound.{any, has_read}
use Rattle.judge.specs.Inner.Run.{firsts}
use Rattle.judge.proofs.index.is_among.Given as goal

abbrev pub invariant-loop-k : goal.invariant-loop-k
invariant-loop-k l = any (has_read l.day l.value) (withdrawn (firsts l.body l.k)) ≡ false
