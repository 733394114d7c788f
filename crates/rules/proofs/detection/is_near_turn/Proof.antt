-- The marks are counted in a unit of at most 10^9, so they fit.
use native.Mathlib.Omega.{arith}
use Prim.Native.Nat.{◌≤◌}
use Rattle.arithmetic.proofs.Laws.{ten_at_most}
use Rattle.rules.specs.Detection.{is_near_turn}
use borrow.Author.Rules.{rules}
use Rattle.rules.proofs.detection.is_near_turn.Statement.{statement}
use Rattle.rules.proofs.detection.is_near_turn.Tie as tie

unit_at_most : (c : tie.After-mark_unit-unit) → c.mark_unit-unit.result ≤ 1000000000
unit_at_most c = rw c.mark_unit-unit.ensures (ten_at_most _)

mark_unit_requires : tie.Need-mark_unit-unit-requires
mark_unit_requires c κs = search rules

is_plain_requires : tie.Need-is_plain-requires
is_plain_requires c κs = search rules

mul_result : tie.Need-overflow_mul-result
mul_result c = omega (arith, unit_at_most c.before)

cast_result : tie.Need-overflow_cast-result
cast_result c = search rules

cast_result_2 : tie.Need-overflow_cast-result-2
cast_result_2 c = search rules

mul_result_2 : tie.Need-overflow_mul-result-2
mul_result_2 c = omega (arith, unit_at_most c.before.before.before)

returns : tie.Need-returns
unfolding is_near_turn
returns c = rw (c.before.before.is_plain.ensures, c.before.before.before.mark_unit-unit.ensures)

pub is_near_turn_spec : {M : Type 1} → statement M
is_near_turn_spec =
    tie.close
    (tie.spec
    mark_unit_requires
    is_plain_requires
    mul_result
    cast_result
    cast_result_2
    mul_result_2
    returns)
