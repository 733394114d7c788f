-- The products are of advances, so they fit, and the tests see the definition's.
use mathlib.Core.Path.{◌≡◌, sym, ap₂, ◌∙◌}
use mathlib.Core.Bool.{false}
use lib.IntN.{ℤ}
use lib.Signed.{lt_z}
use mir.Syntax.{w64}
use mir.Val.{to_z, of_z}
use Rattle.arithmetic.proofs.Signed.{word_of}
use Rattle.rules.specs.Settings.{whole_percent, low_percent, high_percent}
use Rattle.rules.specs.Detection.{scaled_of}
use Rattle.rules.specs.Volume.{compared_with}
use Rattle.rules.proofs.Laws.{AdvanceWord, word_within, scaled_reads}
use Rattle.rules.proofs.volume.compare_with.Statement.{statement}
use Rattle.rules.proofs.volume.compare_with.Tie as tie

module _ (c : tie.Start) where
  current : AdvanceWord c.args.a c.args.a
  current = word_of c.requires.0 tt

  earlier : AdvanceWord c.args.p c.args.p
  earlier = word_of c.requires.1 tt

  -- the three products
  abbrev rate : ℤ
  rate = scaled_of whole_percent c.args.a c.args.r0.day c.args.r1.day

  abbrev low : ℤ
  low = scaled_of low_percent c.args.p c.args.s.day c.args.r0.day

  abbrev high : ℤ
  high = scaled_of high_percent c.args.p c.args.s.day c.args.r0.day

rate_reads : (c : tie.After-scaled-rate) → to_z w64 (of_z w64 c.scaled-rate.result) ≡ rate c.before
rate_reads c = scaled_reads _ _ _ c.scaled-rate.type_inv c.scaled-rate.ensures (current c.before)

-- what the two tests see
low_test : (c : tie.After-scaled) → lt_z (to_z w64 (of_z w64 c.before.scaled-rate.result)) (to_z w64 (of_z w64 c.scaled.result)) ≡ lt_z (rate c.before.before) (low c.before.before)
low_test c = ap₂ lt_z (rate_reads c.before) (scaled_reads _ _ _ c.scaled.type_inv c.scaled.ensures (earlier c.before.before))

not_low : (c : tie.Else-rate-scaled) → lt_z (rate c.before.before.before) (low c.before.before.before) ≡ false
not_low c = sym (low_test c.before) ∙ c.if-rate-scaled.false

high_test : (c : tie.After-scaled-2) → lt_z (to_z w64 (of_z w64 c.scaled-2.result)) (to_z w64 (of_z w64 c.before.before.before.scaled-rate.result)) ≡ lt_z (high c.before.before.before.before) (rate c.before.before.before.before)
high_test c = ap₂ lt_z (scaled_reads _ _ _ c.scaled-2.type_inv c.scaled-2.ensures (earlier c.before.before.before.before)) (rate_reads c.before.before.before)

scaled_requires : tie.Need-scaled-rate-requires
scaled_requires c κs = word_within (current c)

scaled_requires_2 : tie.Need-scaled-requires
scaled_requires_2 c κs = word_within (earlier c.before)

returns : tie.Need-returns-then-rate-scaled
unfolding compared_with
returns c = rw (sym (low_test c.before) ∙ c.if-rate-scaled.true)

scaled_requires_3 : tie.Need-scaled-requires-2
scaled_requires_3 c κs = word_within (earlier c.before.before.before)

returns_2 : tie.Need-returns-then-scaled-rate
unfolding compared_with
returns_2 c = rw (not_low c.before.before, sym (high_test c.before) ∙ c.if-scaled-rate.true)

returns_3 : tie.Need-returns
unfolding compared_with
returns_3 c = rw (not_low c.before.before, sym (high_test c.before) ∙ c.if-scaled-rate.false)

pub compare_with_spec : {M : Type 1} → statement M
compare_with_spec =
    tie.close
    (tie.spec
    scaled_requires
    scaled_requires_2
    returns
    scaled_requires_3
    returns_2
    returns_3)
