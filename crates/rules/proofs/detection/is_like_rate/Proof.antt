-- The three products are of advances, so they fit, and the tests see the definition's.
use native.Mathlib.Omega.{arith}
use Rattle.rules.specs.Detection.{plain_advance, turned_advance, is_like_rate}
use Rattle.rules.proofs.Laws.{AdvanceWord, advance_word, word_within, scaled_reads}
use borrow.Author.Rules.{rules}
use Rattle.rules.proofs.detection.is_like_rate.Statement.{statement}
use Rattle.rules.proofs.detection.is_like_rate.Tie as tie

module _ (c : tie.After-turned_advance-turned) where
  earlier : AdvanceWord c.before.advance-before.result (plain_advance c.before.before.args.n c.before.before.args.r0 c.before.before.args.r1)
  earlier = advance_word _ _ _ _ c.before.advance-before.ensures (omega arith) (omega arith) (omega arith)

  turned : AdvanceWord c.turned_advance-turned.result (turned_advance c.before.before.args.n c.before.before.args.s c.before.before.args.r0)
  turned = advance_word _ _ _ _ c.turned_advance-turned.ensures (omega arith) (omega arith) (omega arith)

advance_requires : tie.Need-advance-before-requires
advance_requires c κs = search rules

turned_advance_requires : tie.Need-turned_advance-turned-requires
turned_advance_requires c κs = c.before.requires

scaled_requires : tie.Need-scaled-rate-requires
scaled_requires c κs = word_within (turned c)

scaled_requires_2 : tie.Need-scaled-least-requires
scaled_requires_2 c κs = word_within (earlier c.before)

scaled_requires_3 : tie.Need-scaled-most-requires
scaled_requires_3 c κs = word_within (earlier c.before.before)

is_plain_requires : tie.Need-is_plain-requires
is_plain_requires c κs = search rules

is_plain_requires_2 : tie.Need-is_plain-requires-2
is_plain_requires_2 c κs = search rules

returns : tie.Need-returns
unfolding is_like_rate
returns c =
    let l = c.before.before.before.before.before in
    let rate = c.before.before.before.before.scaled-rate in
    let least = c.before.before.before.scaled-least in
    let most = c.before.before.scaled-most in
    rw (
      c.before.is_plain.ensures,
      c.is_plain-2.ensures,
      scaled_reads _ _ _ least.type_inv least.ensures (earlier l),
      scaled_reads _ _ _ rate.type_inv rate.ensures (turned l),
      scaled_reads _ _ _ most.type_inv most.ensures (earlier l),
    )

pub is_like_rate_spec : {M : Type 1} → statement M
is_like_rate_spec =
    tie.close
    (tie.spec
    advance_requires
    turned_advance_requires
    scaled_requires
    scaled_requires_2
    scaled_requires_3
    is_plain_requires
    is_plain_requires_2
    returns)
