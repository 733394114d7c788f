-- A tally's number is 0 just where it fits.
use mathlib.Core.Path.{◌≡◌, refl}
use mathlib.Core.Bool.{true, false}
use mathlib.Core.List.{[], ◌∷◌}
use native.Mathlib.Omega.{arith}
use borrow.Author.Tests.{ne_eqb, ltb-false}
use lib.Dec.{ltb}
use Rattle.terms.specs.Number.{accepted, no_meter, damaged}
use Rattle.terms.specs.Rule.{rule}
use Rattle.journal.specs.Sound.{least_dials}
use Rattle.journal.proofs.Bools.{neither}
use Rattle.calls.proofs.Bools.{by_test}
use Rattle.calls.proofs.Broken.{unbroken}
use Rattle.tally.specs.declared.tally.Tally.{Tally}
use Rattle.tally.specs.Tally.{is_zero, has_other_dials, is_no_value, most_standing, is_broken, tally_number}
use Rattle.tally.proofs.Fits.{Fits}
use Rattle.tally.proofs.FitsUnbroken.{not_broken}
use Rattle.tally.proofs.ValuesFit.{value_is}

module _ (t : Tally) (fits : Fits t) where
  not_zero : is_zero t ≡ false
  unfolding is_zero
  not_zero = rw (ne_eqb t.dials 0 (λ none. omega (arith, fits.least, none)))

  pub fits_number : tally_number t ≡ accepted
  unfolding tally_number
  fits_number = rw (not_zero, not_broken t fits)

-- ---- and back
pub number_fits : (t : Tally) → tally_number t ≡ accepted → Fits t
unfolding tally_number is_broken has_other_dials
number_fits t h =
    let u = unbroken accepted (rule no_meter (is_zero t) ∷ rule damaged (is_broken t) ∷ []) refl h in
    let b₁ = neither (has_other_dials t) _ u.1.0 in
    let b₂ = neither (is_no_value t t.first) _ b₁.1 in
    let b₃ = neither (is_no_value t t.last) _ b₂.1 in
    let b₄ = neither (ltb t.standing t.flagged) (ltb most_standing t.standing) b₃.1 in
    let dials = neither (ltb t.dials least_dials) _ b₁.0 in
    let first = value_is t t.first b₂.0 in
    let last = value_is t t.last b₃.0 in
    record {
      least = ltb-false _ _ dials.0;
      most = ltb-false _ _ dials.1;
      first_shown = first.0;
      last_shown = last.0;
      none = λ none. (first.1 none, last.1 none);
      fewer = ltb-false _ _ b₄.0;
      few = ltb-false _ _ b₄.1;
    }

-- ---- a tally of zeros reports 3, and no other does
pub zero_number : (t : Tally) → is_zero t ≡ true → tally_number t ≡ no_meter
unfolding tally_number
zero_number t h = rw h

pub number_zero : (t : Tally) → tally_number t ≡ no_meter → is_zero t ≡ true
unfolding tally_number
number_zero t h =
    by_test (is_zero t)
    (λ z. z)
    (λ z.
    by_test (is_broken t)
    (λ b. absurd (let e : damaged ≡ no_meter = rw (z, b) at h in omega arith))
    (λ b. absurd (let e : accepted ≡ no_meter = rw (z, b) at h in omega arith)))
