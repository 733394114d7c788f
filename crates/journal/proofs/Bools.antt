-- Tests that failed.
use mathlib.Core.Path.{◌≡◌, refl, sym, subst}
use mathlib.Core.Bool.{Bool, true, false, ◌&&◌, ◌||◌, and-eq-true_iff}

abbrev is_false : Bool → Type 0
is_false true = ⊥
is_false false = Unit {0}

-- a function that says no has nothing to show
pub false_is : {A : Type 0} → false ≡ true → A
false_is h = absurd (subst is_false h tt)

pub both : (x y : Bool) → x && y ≡ true → (x ≡ true) × (y ≡ true)
both x y = (and-eq-true_iff x y).0

pub or_none : (x : Bool) → x || false ≡ x
or_none true = refl
or_none false = refl

pub neither : (x y : Bool) → x || y ≡ false → (x ≡ false) × (y ≡ false)
neither false false h = (refl, refl)
neither false true h = false_is (sym h)
neither true y h = false_is (sym h)
