-- Spans of days: years, and the months of a year. Each begins where the one before it ends. That a table or a formula gives the starts, and that a
-- division finds the span, is one test each, which goes over all spans.
use mathlib.Core.Path.{◌≡◌, refl, ap, sym, ◌∙◌}
use mathlib.Core.Bool.{Bool, true, false, ◌&&◌, and-eq-true_iff}
use Prim.Native.Nat.{ℕ, zero, suc, ◌+◌, ◌-◌, ◌/◌, ◌≤◌, ◌<◌}
use native.Mathlib.Nat.{add-zero, add-suc, suc-add, le_of_suc-le-suc, lt_of_not-le, div-mul-le_self, le-div_iff_mul-le}
use native.Mathlib.Omega.{arith}
use borrow.Author.Tests.{eqb-true, ltb-true, ltb-false}
use lib.Dec.{eqb, ltb}
use Rattle.calendar.specs.Inner.Placed.{Placed}

-- g gives the starts of n spans from the i-th on, which begins at x: x, and each other as far on as the span before it is long
unfoldable pub gives : (g length : ℕ → ℕ) → ℕ → ℕ → ℕ → Bool
gives g length i x zero = true
gives g length i x (suc n) = eqb (g i) x && gives g length (suc i) (x + length i) n

-- f finds each of them by its first day and by its last
unfoldable pub finds : (f length : ℕ → ℕ) → ℕ → ℕ → ℕ → Bool
finds f length i x zero = true
finds f length i x (suc n) = (eqb (f x) i && eqb (f (x + length i - 1)) i) && finds f length (suc i) (x + length i) n

module _ (start length : ℕ → ℕ) (more : (k : ℕ) → start (suc k) ≡ start k + length k) where
  pub given : (g : ℕ → ℕ) (n i x : ℕ) → x ≡ start i → gives g length i x n ≡ true → (k : ℕ) → k < n → g (i + k) ≡ start (i + k)
  unfolding gives
  given g zero i x e h k l = absurd (omega arith)
  given g (suc n) i x e h zero l =
      let t = (and-eq-true_iff (eqb (g i) x) (gives g length (suc i) (x + length i) n)).0 h in
      rw add-zero (eqb-true (g i) x t.0 ∙ e)
  given g (suc n) i x e h (suc k) l =
      let t = (and-eq-true_iff (eqb (g i) x) (gives g length (suc i) (x + length i) n)).0 h in
      let next : x + length i ≡ start (suc i) = ap (λ (z : ℕ). z + length i) e ∙ sym (more i) in
      rw (add-suc, ← suc-add) (given g n (suc i) (x + length i) next t.1 k (omega arith))

  pub record Ends (f : ℕ → ℕ) (k : ℕ) : Type 0 where
    pub first : f (start k) ≡ k
    pub last : f (start (suc k) - 1) ≡ k

  pub found : (f : ℕ → ℕ) (n i x : ℕ) → x ≡ start i → finds f length i x n ≡ true → (k : ℕ) → k < n → Ends f (i + k)
  unfolding finds
  found f zero i x e h k l = absurd (omega arith)
  found f (suc n) i x e h zero l =
      let t = (and-eq-true_iff (eqb (f x) i && eqb (f (x + length i - 1)) i) (finds f length (suc i) (x + length i) n)).0 h in
      let u = (and-eq-true_iff (eqb (f x) i) (eqb (f (x + length i - 1)) i)).0 t.0 in
      rw add-zero
      (record {
        first = ap f (sym e) ∙ eqb-true (f x) i u.0;
        last = ap f (omega (arith, e, more i)) ∙ eqb-true (f (x + length i - 1)) i u.1;
      })
  found f (suc n) i x e h (suc k) l =
      let t = (and-eq-true_iff (eqb (f x) i && eqb (f (x + length i - 1)) i) (finds f length (suc i) (x + length i) n)).0 h in
      let next : x + length i ≡ start (suc i) = ap (λ (z : ℕ). z + length i) e ∙ sym (more i) in
      rw (add-suc, ← suc-add) (found f n (suc i) (x + length i) next t.1 k (omega arith))

  -- a rising f that finds each span by its first day and its last finds it by every day between
  module _ (f : ℕ → ℕ) (rises : (a b : ℕ) → a ≤ b → f a ≤ f b) (count : ℕ) (each : (k : ℕ) → k < count → Ends f k) (day : ℕ) (low : start 0 ≤ day) (high : day < start count) where
    held_in : (n : ℕ) → n ≡ count → f day < count
    held_in zero e = let s = ap start e in absurd (omega arith)
    held_in (suc n) e =
        let s = ap start e in
        omega (arith, rises day (start (suc n) - 1) (omega arith), (each n (omega arith)).last)

    not_before : (k : ℕ) → k < count → f day ≡ k → day < start k → ⊥
    not_before zero h e l = omega arith
    not_before (suc k) h e l = omega (arith, rises day (start (suc k) - 1) (omega arith), (each k (omega arith)).last)

    not_after : (k : ℕ) → k < count → f day ≡ k → start (suc k) ≤ day → ⊥
    not_after k h e l = by_test (ltb (suc k) count) refl
      where
        by_test : (b : Bool) → ltb (suc k) count ≡ b → ⊥
        by_test true t = omega (arith, rises (start (suc k)) day l, (each (suc k) (ltb-true (suc k) count t)).first)
        by_test false t = let s : suc k ≡ count = omega (arith, ltb-false (suc k) count t) in omega (arith, ap start s)

    pub placed : Placed start count day (f day)
    placed =
        let h = held_in count refl in
        record {
          held = h;
          from = le_of_suc-le-suc (lt_of_not-le (not_before (f day) h refl));
          to = lt_of_not-le (not_after (f day) h refl);
        }

-- a quotient rises
pub quotient_rises : (k a b : ℕ) → 0 < k → a ≤ b → a / k ≤ b / k
quotient_rises k a b h l = (le-div_iff_mul-le {x = a / k} h).1 (omega (arith, div-mul-le_self a k))
