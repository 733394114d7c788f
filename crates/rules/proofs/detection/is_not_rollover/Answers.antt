-- The match on the last read is the definition's.
use mathlib.Core.Path.{sym, ap, ◌∙◌}
use Rattle.rules.specs.Detection.{is_not_rollover}
use Rattle.rules.proofs.detection.is_not_rollover.Goals as goal

pub returns-in-Some : goal.returns-in-Some
unfolding is_not_rollover
returns-in-Some c = c.is_small_step.ensures ∙ sym (ap (is_not_rollover _ _) c.in-Some.is)

pub returns-in-None : goal.returns-in-None
unfolding is_not_rollover
returns-in-None c = sym (ap (is_not_rollover _ _) c.in-None.is)
