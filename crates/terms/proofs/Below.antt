-- What holds of every number below a bound, by one test over them all.
use mathlib.Core.Path.{◌≡◌, refl}
use mathlib.Core.Bool.{Bool, true, false, ◌&&◌, and-eq-true_iff}
use Prim.Native.Nat.{ℕ, zero, suc, ◌<◌}
use native.Mathlib.Omega.{arith}
use borrow.Author.Tests.{leb-true, leb-false}
use lib.Dec.{leb}

unfoldable pub all_below : ℕ → (ℕ → Bool) → Bool
all_below zero p = true
all_below (suc n) p = p n && all_below n p

pub below : (n : ℕ) (p : ℕ → Bool) → all_below n p ≡ true → (k : ℕ) → k < n → p k ≡ true
unfolding all_below
below zero p h k l = absurd (omega arith)
below (suc n) p h k l = cases (leb n k) refl (below n p tests.1 k) where
  tests : (p n ≡ true) × (all_below n p ≡ true)
  tests = (and-eq-true_iff (p n) (all_below n p)).0 h

  cases : (b : Bool) → leb n k ≡ b → (k < n → p k ≡ true) → p k ≡ true
  cases true e rest =
      let at : n ≡ k = omega (arith, leb-true n k e) in
      rw at at tests.0
  cases false e rest = rest (leb-false n k e)
