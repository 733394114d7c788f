-- The limit and the advance that the test sees are the definition's.
use native.Mathlib.Omega.{arith}
use Rattle.rules.specs.Detection.{is_small_step}
use Rattle.rules.proofs.Laws.{advance_word, negated_fits, negated_reads}
use Rattle.rules.proofs.detection.is_small_step.Goals as goal

pub overflow_sub-result : goal.overflow_sub-result
overflow_sub-result c = negated_fits c.step_back-limit.result (omega arith)

pub returns : goal.returns
unfolding is_small_step
returns c =
    rw (
      negated_reads c.step_back-limit.result (omega arith),
      c.step_back-limit.ensures,
      (advance_word _ _ _ _ c.advance.ensures (omega arith) (omega arith) (omega arith)).reads,
    )
