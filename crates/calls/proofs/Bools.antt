-- Tests taken apart: a conjunction that holds, a disjunction that fails, and a case for each outcome.
use mathlib.Core.Path.{◌≡◌, refl}
use mathlib.Core.Bool.{Bool, true, false, ◌&&◌, ◌||◌, and-eq-true_iff}
use Prim.Native.Nat.{ℕ}
use native.Mathlib.Omega.{arith}

pub both : (x y : Bool) → x && y ≡ true → (x ≡ true) × (y ≡ true)
both x y = (and-eq-true_iff x y).0

pub together : {x y : Bool} → x ≡ true → y ≡ true → x && y ≡ true
together p q = rw (p, q)

pub or_false : {x y : Bool} → x ≡ false → y ≡ false → x || y ≡ false
or_false p q = rw (p, q)

pub left_or : {x : Bool} (y : Bool) → x ≡ true → x || y ≡ true
left_or y h = rw h

pub right_or : (x : Bool) {y : Bool} → y ≡ true → x || y ≡ true
right_or true h = refl
right_or false h = h

pub apart : {x : Bool} → x ≡ true → x ≡ false → ⊥
apart p q = let z : ◌≡◌ {A = ℕ} 0 1 = cc in omega arith

pub by_test {ℓ} : {X : Type ℓ} (b : Bool) → (b ≡ true → X) → (b ≡ false → X) → X
by_test true f g = f refl
by_test false f g = g refl

pub either_of {ℓ} : {X : Type ℓ} (x y : Bool) → x || y ≡ true → (x ≡ true → X) → (y ≡ true → X) → X
either_of true y h f g = f refl
either_of false y h f g = g h
