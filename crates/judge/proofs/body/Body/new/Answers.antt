-- The power fits four bytes.
use mathlib.Core.Bool.{Bool, true, false, cond}
use Prim.Native.Nat.{◌≤◌}
use native.Mathlib.Omega.{arith}
use Rattle.arithmetic.proofs.Laws.{ten_at_most}
use Rattle.register.specs.declared.head.Head.{Head}
use Rattle.register.specs.Head.{most_entries}
use Rattle.judge.proofs.body.Body.new.Goals as goal

most_few : (head : Head) → most_entries head ≤ 50
unfolding most_entries
most_few head = by_carry head.carried where
  by_carry : (b : Bool) → cond b 49 50 ≤ 50
  by_carry true = omega arith
  by_carry false = omega arith

pub invariant_of-result-clause-few : goal.invariant_of-result-clause-few
invariant_of-result-clause-few c = omega (arith, most_few c.args.head, c.most_entries-most.ensures)

pub overflow_cast-limit : goal.overflow_cast-limit
overflow_cast-limit c = omega (arith, c.power-limit.ensures, ten_at_most c.args.head.dials)
