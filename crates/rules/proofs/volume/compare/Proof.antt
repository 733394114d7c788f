-- The match on the read before the last is the definition's, and so is p.
use mathlib.Core.Path.{◌≡◌, ap, ap₂}
use mathlib.Core.Bool.{◌&&◌}
use lib.IntN.{ℤ, pos}
use lib.Signed.{lt_z}
use mir.Syntax.{w64}
use mir.Val.{to_z, of_z}
use native.Mathlib.Omega.{arith}
use Rattle.arithmetic.proofs.Signed.{word_of}
use Rattle.rules.specs.Volume.{last_advance, has_threshold, compared}
use Rattle.rules.proofs.Laws.{AdvanceWord, advance_word, word_within}
use borrow.Author.Rules.{rules}
use Rattle.rules.proofs.volume.compare.Statement.{statement}
use Rattle.rules.proofs.volume.compare.Tie as tie

module _ (c : tie.After-advance-p) where
  abbrev start : tie.Start
  start = c.before.before

  abbrev p : ℤ
  p = last_advance start.args.n start.args.r0 c.before.in-Some.r1

  earlier : AdvanceWord c.advance-p.result p
  earlier = advance_word _ _ _ _ c.advance-p.ensures (omega arith) (omega arith) (omega arith)

-- what the test sees
asked : (c : tie.After-has_threshold) → c.has_threshold.result && lt_z (pos 0) (to_z w64 (of_z w64 c.before.advance-p.result)) ≡ has_threshold (start c.before).args.s && lt_z (pos 0) (p c.before)
asked c = ap₂ ◌&&◌ c.has_threshold.ensures (ap (lt_z (pos 0)) (earlier c.before).reads)

enum_known_second : tie.Need-enum_known-second
enum_known_second c = search rules

enum_told : tie.Need-enum_told-1
enum_told c = search rules

returns : tie.Need-returns-in_default
unfolding compared
returns c = rw c.in_default.is

advance_requires : tie.Need-advance-p-requires
advance_requires c κs = search rules

has_threshold_requires : tie.Need-has_threshold-requires
has_threshold_requires c κs = search rules

compare_with_requires : tie.Need-compare_with-requires
compare_with_requires c κs = (word_within (word_of (start c.before.before).requires tt), word_within (earlier c.before.before))

returns_2 : tie.Need-returns-then-has_threshold-p
unfolding compared
returns_2 c =
    let b = c.before.before.before in
    rw (
      b.before.in-Some.is,
      ← asked c.before.before,
      c.before.if-has_threshold-p.true,
      c.compare_with.ensures,
      (word_of (start b).requires tt).reads,
      (earlier b).reads,
    )

returns_3 : tie.Need-returns
unfolding compared
returns_3 c = rw (c.in-Some.is, ← asked c.before, c.if-has_threshold-p.false)

pub compare_spec : {M : Type 1} → statement M
compare_spec =
    tie.close
    (tie.spec
    enum_known_second
    enum_told
    returns
    advance_requires
    has_threshold_requires
    compare_with_requires
    returns_2
    returns_3)
