-- Ten times an advance fits 64 bits, and so does a power of the table.
use native.Mathlib.Omega.{arith}
use Rattle.rules.specs.Detection.{turned_advance, is_small_turn}
use Rattle.rules.proofs.Laws.{AdvanceWord, advance_word, part_fits, part_reads, power_fits}
use borrow.Author.Rules.{rules}
use Rattle.rules.proofs.detection.is_small_turn.Statement.{statement}
use Rattle.rules.proofs.detection.is_small_turn.Tie as tie

turned : (c : tie.After-turned_advance) → AdvanceWord c.turned_advance.result (turned_advance c.before.before.args.n c.before.before.args.s c.before.before.args.r0)
turned c = advance_word _ _ _ _ c.turned_advance.ensures (omega arith) (omega arith) (omega arith)

is_plain_requires : tie.Need-is_plain-requires
is_plain_requires c κs = search rules

turned_advance_requires : tie.Need-turned_advance-requires
turned_advance_requires c κs = c.before.requires

mul_result : tie.Need-overflow_mul-result
mul_result c = part_fits (turned c)

cast_result : tie.Need-overflow_cast-result
cast_result c = power_fits _ _ c.before.before.requires

returns : tie.Need-returns
unfolding is_small_turn
returns c = rw (c.before.is_plain.ensures, part_reads (turned c) _ _ c.before.before.requires)

pub is_small_turn_spec : {M : Type 1} → statement M
is_small_turn_spec =
    tie.close
    (tie.spec
    is_plain_requires
    turned_advance_requires
    mul_result
    cast_result
    returns)
