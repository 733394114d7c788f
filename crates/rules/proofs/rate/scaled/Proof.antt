-- Every product fits 64 bits: at most 255 times an advance times 65535 days.
use native.Mathlib.Omega.{arith}
use lib.IntN.{pos, ◌-ℤ◌}
use mir.Syntax.{w64}
use mir.Val.{to_z, of_z}
use Rattle.arithmetic.proofs.Signed.{Word, word_cast, word_of, word_difference, word_product, fits_difference, fits_product}
use Rattle.rules.specs.Detection.{scaled_of}
use borrow.Author.Rules.{rules}
use Rattle.rules.proofs.rate.scaled.Statement.{statement}
use Rattle.rules.proofs.rate.scaled.Tie as tie

module _ (c : tie.Start) where
  factor : Word c.args.k (pos c.args.k) 255
  factor = word_cast (omega arith) tt

  days : Word (of_z w64 (to_z w64 c.args.later -ℤ to_z w64 c.args.earlier)) (pos c.args.later -ℤ pos c.args.earlier) 65535
  days = word_difference c.args.later c.args.earlier 65535 (omega arith) (omega arith) tt

cast_result : tie.Need-overflow_cast-result
cast_result c = search rules

mul_result : tie.Need-overflow_mul-result
mul_result c = fits_product (factor c) (word_of c.requires tt) tt

cast_result_2 : tie.Need-overflow_cast-result-2
cast_result_2 c = search rules

cast_result_3 : tie.Need-overflow_cast-result-3
cast_result_3 c = search rules

sub_result : tie.Need-overflow_sub-result
sub_result c = fits_difference c.args.later c.args.earlier 65535 (omega arith) (omega arith) tt

mul_result_2 : tie.Need-overflow_mul-result-2
mul_result_2 c = fits_product (word_product (factor c) (word_of c.requires tt) tt) (days c) tt

returns : tie.Need-returns
unfolding scaled_of
returns c = (word_product (word_product (factor c) (word_of c.requires tt) tt) (days c) tt).reads

pub scaled_spec : {M : Type 1} → statement M
scaled_spec =
    tie.close
    (tie.spec
    cast_result
    mul_result
    cast_result_2
    cast_result_3
    sub_result
    mul_result_2
    returns)
