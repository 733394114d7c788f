-- A signed number by the test of its bits: a negative one, and any other.
use mathlib.Core.Path.{◌≡◌, refl}
use mathlib.Core.Bool.{Bool, true, false}
use Prim.Native.Nat.{ℕ}
use native.Mathlib.Omega.{arith}
use borrow.Author.Tests.{ltb-true}
use lib.IntN.{ℤ, pos, negsuc, nat_abs}
use lib.Signed.{mag, lt_z}
use mir.Syntax.{w64}
use mir.Val.{SFits, to_z, of_z}
use mir.ValLaws.{to_z-of_z}

negative_is : (z : ℤ) → lt_z z (pos 0) ≡ true → z ≡ negsuc (mag z)
negative_is (pos n) h = absurd (omega (arith, ltb-true n 0 h))
negative_is (negsuc n) h = refl

natural_is : (z : ℤ) → lt_z z (pos 0) ≡ false → z ≡ pos (nat_abs z)
natural_is (pos n) h = refl
natural_is (negsuc n) h = let e : ◌≡◌ {A = ℕ} 0 1 = cc in absurd (omega arith)

module _ (z : ℤ) (fits : SFits w64 z) where
  abbrev test : Bool
  test = lt_z (to_z w64 (of_z w64 z)) (pos 0)

  sign_is : {sign : Bool} → test ≡ sign → lt_z z (pos 0) ≡ sign
  sign_is h = rw (to_z-of_z w64 z fits) at h

  module _ (taken : test ≡ true) where
    pub is_negative : z ≡ negsuc (mag z)
    is_negative = negative_is z (sign_is taken)

  module _ (left : test ≡ false) where
    pub is_natural : z ≡ pos (nat_abs z)
    is_natural = natural_is z (sign_is left)
