-- Both products fit 64 bits: an advance by at most 65535 days, and a capacity of 4 bytes by as many.
use native.Mathlib.Omega.{arith}
use lib.IntN.{pos, ◌-ℤ◌}
use mir.Syntax.{w64}
use mir.Val.{to_z, of_z}
use Rattle.arithmetic.proofs.Signed.{Word, word_cast, word_of, word_difference, word_product, fits_difference, fits_product}
use Rattle.rules.specs.Volume.{is_within_capacity}
use Rattle.rules.proofs.Laws.{AdvanceWord}
use borrow.Author.Rules.{rules}
use Rattle.rules.proofs.volume.is_within_capacity.Statement.{statement}
use Rattle.rules.proofs.volume.is_within_capacity.Tie as tie

module _ (c : tie.After-days_in_year-days) where
  abbrev start : tie.Start
  start = c.before

  current : AdvanceWord start.args.a start.args.a
  current = word_of start.requires tt

  year : Word c.days_in_year-days.result (pos c.days_in_year-days.result) 65535
  year = word_cast (omega arith) tt

  allowed : Word start.args.capacity (pos start.args.capacity) 4294967295
  allowed = word_cast (omega arith) tt

  days : Word (of_z w64 (to_z w64 start.args.s.day -ℤ to_z w64 start.args.r0.day)) (pos start.args.s.day -ℤ pos start.args.r0.day) 65535
  days = word_difference start.args.s.day start.args.r0.day 65535 (omega arith) (omega arith) tt

days_in_year_requires : tie.Need-days_in_year-days-requires
days_in_year_requires c κs = search rules

cast_result : tie.Need-overflow_cast-result
cast_result c = search rules

mul_result : tie.Need-overflow_mul-result
mul_result c = fits_product (current c) (year c) tt

cast_result_2 : tie.Need-overflow_cast-result-2
cast_result_2 c = search rules

cast_result_3 : tie.Need-overflow_cast-result-3
cast_result_3 c = search rules

cast_result_4 : tie.Need-overflow_cast-result-4
cast_result_4 c = search rules

sub_result : tie.Need-overflow_sub-result
sub_result c =
    let b = c.before.before in
    fits_difference (start b).args.s.day (start b).args.r0.day 65535 (omega arith) (omega arith) tt

mul_result_2 : tie.Need-overflow_mul-result-2
mul_result_2 c = fits_product (allowed c.before.before) (days c.before.before) tt

returns : tie.Need-returns
unfolding is_within_capacity
returns c =
    let b = c.before.before in
    rw (← b.days_in_year-days.ensures, (word_product (current b) (year b) tt).reads, (word_product (allowed b) (days b) tt).reads)

pub is_within_capacity_spec : {M : Type 1} → statement M
is_within_capacity_spec =
    tie.close
    (tie.spec
    days_in_year_requires
    cast_result
    mul_result
    cast_result_2
    cast_result_3
    cast_result_4
    sub_result
    mul_result_2
    returns)
