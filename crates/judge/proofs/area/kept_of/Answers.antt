-- A held entry is counted, so that one can be taken off.
use native.Mathlib.Omega.{arith}
use Rattle.judge.proofs.area.kept_of.Goals as goal

pub overflow_sub-result : goal.overflow_sub-result
overflow_sub-result c = omega (arith, c.requires c.if-held.true)

pub returns-then-held : goal.returns-then-held
returns-then-held c = rw c.if-held.true
