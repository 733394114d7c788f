-- Ten times an advance fits 64 bits, and so does a power of the table.
use native.Mathlib.Omega.{arith}
use Rattle.rules.specs.Detection.{plain_advance, is_small_advance}
use Rattle.rules.proofs.Laws.{AdvanceWord, advance_word, part_fits, part_reads, power_fits}
use borrow.Author.Rules.{rules}
use Rattle.rules.proofs.detection.is_small_advance.Statement.{statement}
use Rattle.rules.proofs.detection.is_small_advance.Tie as tie

plain : (c : tie.After-advance) → AdvanceWord c.advance.result (plain_advance c.before.before.before.args.n c.before.before.before.args.newer c.before.before.before.args.older)
plain c = advance_word _ _ _ _ c.advance.ensures (omega arith) (omega arith) (omega arith)

is_plain_requires : tie.Need-is_plain-requires
is_plain_requires c κs = search rules

is_plain_requires_2 : tie.Need-is_plain-requires-2
is_plain_requires_2 c κs = search rules

advance_requires : tie.Need-advance-requires
advance_requires c κs = search rules

mul_result : tie.Need-overflow_mul-result
mul_result c = part_fits (plain c)

cast_result : tie.Need-overflow_cast-result
cast_result c = power_fits _ _ c.before.before.before.requires

returns : tie.Need-returns
unfolding is_small_advance
returns c = rw (
  c.before.before.is_plain.ensures,
  c.before.is_plain-2.ensures,
  part_reads (plain c) _ _ c.before.before.before.requires,
)

pub is_small_advance_spec : {M : Type 1} → statement M
is_small_advance_spec =
    tie.close
    (tie.spec
    is_plain_requires
    is_plain_requires_2
    advance_requires
    mul_result
    cast_result
    returns)
