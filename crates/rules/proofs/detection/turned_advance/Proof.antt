-- A flag adds 10^n to the advance.
use mathlib.Core.Path.{◌∙◌}
use native.Mathlib.Omega.{arith}
use Rattle.arithmetic.specs.Advance.{advance_of}
use Rattle.arithmetic.proofs.Laws.{advance_turned}
use Rattle.arithmetic.proofs.Signed.{word_sum, fits_sum}
use Rattle.rules.proofs.Laws.{AdvanceWord, advance_word, power_fits, power_word}
use borrow.Author.Rules.{rules}
use Rattle.rules.proofs.detection.turned_advance.Statement.{statement}
use Rattle.rules.proofs.detection.turned_advance.Tie as tie

plain : (c : tie.After-advance) → AdvanceWord c.advance.result (advance_of c.before.args.n c.before.args.s.value 0 c.before.args.r0.value)
plain c = advance_word _ _ _ _ c.advance.ensures (omega arith) (omega arith) (omega arith)

advance_requires : tie.Need-advance-requires
advance_requires c κs = search rules

cast_result : tie.Need-overflow_cast-result
cast_result c = power_fits _ _ c.before.requires

add_result : tie.Need-overflow_add-result
add_result c = fits_sum (plain c) (power_word _ _ c.before.requires) tt

returns : tie.Need-returns
returns c =
    let a = c.before.args in
    (word_sum (plain c) (power_word _ _ c.before.requires) tt).reads ∙ advance_turned a.n a.s.value a.r0.value

pub turned_advance_spec : {M : Type 1} → statement M
turned_advance_spec =
    tie.close
    (tie.spec
    advance_requires
    cast_result
    add_result
    returns)
