-- A mark set stays set, and the value that set it is marked. The letters of the plain entries.
use mathlib.Core.Path.{◌≡◌, refl, sym, ap, ◌∙◌}
use mathlib.Core.Bool.{Bool, true, false, not, ◌&&◌, ◌||◌}
use Prim.Native.Nat.{ℕ, zero, suc, ◌+◌, ◌-◌, ◌*◌, ◌/◌, ◌%◌, ◌^◌, ◌≤◌, ◌<◌}
use native.Mathlib.Nat.{mod-lt, mod-eq_of_lt, div_self, one-mul}
use native.Mathlib.Omega.{arith}
use borrow.Author.Tests.{eqb-true, eq-eqb, not-true}
use lib.Bits.{bit_or, or_shr, or_mod, or_comm}
use lib.Pow.{pow_pos, pow-lt}
use Rattle.terms.specs.Letter.{is_known, is_opening, is_final}
use Rattle.terms.proofs.Below.{all_below, below}
use Rattle.judge.specs.Inner.Marks.{mark_of, is_marked, mark_on}
use Rattle.judge.specs.Inner.Plain.{PlainLetter}
use Rattle.journal.proofs.Bools.{false_is, both}

or_bit : (a b k : ℕ) → bit_or a b / 2 ^ k % 2 ≡ bit_or (a / 2 ^ k % 2) (b / 2 ^ k % 2)
or_bit a b k = ap (λ (n : ℕ). n % 2) (or_shr a b k) ∙ or_mod (a / 2 ^ k) (b / 2 ^ k) 1

or_one : (y : ℕ) → y < 2 → bit_or 1 y ≡ 1
or_one zero h = refl
or_one (suc zero) h = refl
or_one (suc (suc y)) h = absurd (omega arith)

set_left : (a b k : ℕ) → a / 2 ^ k % 2 ≡ 1 → bit_or a b / 2 ^ k % 2 ≡ 1
set_left a b k h = or_bit a b k ∙ ap (λ (n : ℕ). bit_or n (b / 2 ^ k % 2)) h ∙ or_one (b / 2 ^ k % 2) (mod-lt (b / 2 ^ k) (omega arith))

stays_marked : (marks w v : ℕ) → is_marked marks v ≡ true → is_marked (mark_on marks w) v ≡ true
unfolding mark_of mark_on
stays_marked marks w v h = eq-eqb _ _ (set_left marks (2 ^ (w % 64)) (v % 64) (eqb-true _ _ h))

then_marked : (marks v : ℕ) → is_marked (mark_on marks v) v ≡ true
unfolding mark_of mark_on
then_marked marks v =
    let k = v % 64 in
    let own : 2 ^ k / 2 ^ k % 2 ≡ 1 = ap (λ (n : ℕ). n % 2) (div_self (pow_pos k)) in
    eq-eqb _ _ (ap (λ (n : ℕ). n / 2 ^ k % 2) (or_comm marks (2 ^ k)) ∙ set_left (2 ^ k) marks k own)

-- a value with no mark is not the one that marked last, and had none before
pub unmarked : (marks w v : ℕ) → is_marked (mark_on marks w) v ≡ false → (w ≡ v → ⊥) × (is_marked marks v ≡ false)
unmarked marks w v u = (λ e. false_is (sym u ∙ rw e (then_marked marks v)), cases (is_marked marks v) refl) where
  cases : (b : Bool) → is_marked marks v ≡ b → is_marked marks v ≡ false
  cases true e = false_is (sym u ∙ stays_marked marks w v e)
  cases false e = e

-- the bit as a shift of 64 bits has it
pub bit_shifted : (v : ℕ) → (1 * 2 ^ (v % 64)) % 18446744073709551616 ≡ 2 ^ (v % 64)
bit_shifted v =
    let small : 2 ^ (v % 64) < 2 ^ 64 = pow-lt (mod-lt v (omega arith)) in
    ap (λ (n : ℕ). n % 18446744073709551616) (one-mul (2 ^ (v % 64))) ∙ mod-eq_of_lt small

-- ---- every letter of the 64 that has a bit is plain: one test over all places
is_plain : ℕ → Bool
is_plain l = is_known l && (not (is_opening l) && not (is_final l))

plain_there : ℕ → Bool
plain_there k = not (is_marked 54263848 (64 + k)) || is_plain (64 + k)

all_plain : all_below 64 plain_there ≡ true
unfolding all_below plain_there is_plain mark_of is_known is_opening is_final
all_plain = refl

one_of : (x y : Bool) → x ≡ true → not x || y ≡ true → y ≡ true
one_of true y h g = g
one_of false y h g = false_is h

pub plain_letter : (l : ℕ) → 64 ≤ l → l ≤ 127 → is_marked 54263848 l ≡ true → PlainLetter l
unfolding plain_there is_plain
plain_letter l from to marked =
    let at : 64 + (l - 64) ≡ l = omega arith in
    let plain : is_plain l ≡ true = one_of (is_marked 54263848 l) (is_plain l) marked (rw at at (below 64 plain_there all_plain (l - 64) (omega arith))) in
    let known = both (is_known l) (not (is_opening l) && not (is_final l)) plain in
    let others = both (not (is_opening l)) (not (is_final l)) known.1 in
    record { known = known.0; inner = not-true (is_opening l) others.0; unending = not-true (is_final l) others.1 }
