-- The first rule broken: no rule before it is.
use mathlib.Core.Path.{◌≡◌, refl}
use mathlib.Core.Bool.{Bool, true, false, not, ◌&&◌, cond}
use mathlib.Core.List.{List, [], ◌∷◌, ◌++◌}
use Prim.Native.Nat.{ℕ}
use borrow.Author.Tests.{eq-eqb, not-true}
use lib.Dec.{eqb}
use Rattle.terms.specs.Number.{accepted}
use Rattle.terms.specs.Rule.{Rule, first_broken}
use Rattle.calls.proofs.Bools.{both, apart}

-- none of the rules is broken
abbrev pub Unbroken : List Rule → Type 0
Unbroken [] = Unit
Unbroken (r ∷ rs) = (r.broken ≡ false) × Unbroken rs

-- every rule has a number other than k
abbrev pub have_others : ℕ → List Rule → Bool
have_others k [] = true
have_others k (r ∷ rs) = not (eqb r.number k) && have_others k rs

not_first : (b : Bool) (m k n : ℕ) → not (eqb m k) ≡ true → cond b m n ≡ k → (b ≡ false) × (n ≡ k)
not_first true m k n o h = absurd (apart (eq-eqb m k h) (not-true _ o))
not_first false m k n o h = (refl, h)

-- where the number of two groups is k, the rules of the first, whose numbers are others, are not broken, and k is the number of the second
pub past_group : (k : ℕ) (rs others : List Rule) → have_others k rs ≡ true → first_broken (rs ++ others) ≡ k → Unbroken rs × (first_broken others ≡ k)
past_group k [] others o h = (tt, h)
past_group k (r ∷ rs) others o h =
    let o' = both (not (eqb r.number k)) (have_others k rs) o in
    let f = not_first r.broken r.number k (first_broken (rs ++ others)) o'.0 h in
    let g = past_group k rs others o'.1 f.1 in
    ((f.0, g.0), g.1)

-- a number that none of them has is that of no rule broken
pub no_number : (k : ℕ) (rs : List Rule) → have_others k rs ≡ true → first_broken rs ≡ k → accepted ≡ k
no_number k [] o h = h
no_number k (r ∷ rs) o h =
    let o' = both (not (eqb r.number k)) (have_others k rs) o in
    no_number k rs o'.1 (not_first r.broken r.number k (first_broken rs) o'.0 h).1

-- a list that is one group
pub unbroken : (k : ℕ) (rs : List Rule) → have_others k rs ≡ true → first_broken rs ≡ k → Unbroken rs
unbroken k [] o h = tt
unbroken k (r ∷ rs) o h =
    let o' = both (not (eqb r.number k)) (have_others k rs) o in
    let f = not_first r.broken r.number k (first_broken rs) o'.0 h in
    (f.0, unbroken k rs o'.1 f.1)
