-- A last value moved by an advance: up, down, or out of the dials' range.
use mathlib.Core.Path.{◌≡◌, refl, sym, ap, ◌∙◌}
use mathlib.Core.Bool.{Bool, false, cond}
use Prim.Native.Nat.{ℕ, zero, suc, ◌+◌, ◌-◌, ◌*◌, ◌≤◌, ◌<◌}
use native.Mathlib.Nat.{mul_comm}
use native.Mathlib.Omega.{arith}
use borrow.Author.Tests.{lt-ltb, le-ltb, ltb-true}
use lib.Dec.{ltb}
use lib.IntN.{ℤ, pos, negsuc, nat_abs, ◌+ℤ◌, ◌-ℤ◌, +ℤ_assoc, +ℤ_comm, pos-+ℤ-pos, pos-ne-negsuc}
use lib.Signed.{mag, non_neg}
use Rattle.std.specs.Prelude.{None}
use Rattle.std.proofs.lemmas.Int.{ints}
use Rattle.std.specs.Int.{FitsUnsigned}
use mir.Syntax.{w64}
use Rattle.calls.proofs.Bools.{by_test}
use Rattle.tally.specs.Inner.Moved.{shown_by, moved_to}

-- ---- one number less another
pub less : (a b : ℕ) → b ≤ a → pos a -ℤ pos b ≡ pos (a - b)
less a zero h = pos-+ℤ-pos a 0 ∙ ap pos (omega arith)
less a (suc b) h = ap (λ (t : Bool). cond t (negsuc (suc b - suc a)) (pos (a - suc b))) (le-ltb a (suc b) h)

pub below : (a b : ℕ) → a < b → non_neg (pos a -ℤ pos b) ≡ false
below a zero h = absurd (omega arith)
below a (suc b) h = ap (λ (t : Bool). non_neg (cond t (negsuc (suc b - suc a)) (pos (a - suc b)))) (lt-ltb a (suc b) h)

-- ---- moved by an advance of either sign: where it would be below 0, or past eight bytes, nothing is shown
module _ (limit : ℕ) where
  pub moved : (z : ℤ) → FitsUnsigned w64 z → moved_to limit z ≡ shown_by limit (nat_abs z)
  unfolding moved_to
  moved (pos n) h = refl
  moved (negsuc n) h = absurd (omega (arith, h))

  pub moved_none : limit < 4294967296 → (z : ℤ) → (FitsUnsigned w64 z → ⊥) → moved_to limit z ≡ None
  unfolding moved_to shown_by
  moved_none few (pos n) h = by_test (ltb n limit) (λ t. let l = ltb-true n limit t in absurd (h (omega (arith, ints), omega (arith, ints)))) (λ t. rw t)
  moved_none few (negsuc n) h = refl

-- ---- moved by an advance of either sign, with its magnitude
module _ (limit from : ℕ) where
  pub up : (z : ℤ) → z ≡ pos (nat_abs z) → moved_to limit (pos from +ℤ z) ≡ shown_by limit (from + nat_abs z)
  unfolding moved_to
  up (pos n) h = ap (moved_to limit) (pos-+ℤ-pos from n)
  up (negsuc n) h = absurd (pos-ne-negsuc (suc n) n (sym h))

  pub down : (z : ℤ) → z ≡ negsuc (mag z) → nat_abs z ≤ from → moved_to limit (pos from +ℤ z) ≡ shown_by limit (from - nat_abs z)
  unfolding moved_to
  down (pos n) h l = absurd (pos-ne-negsuc n n h)
  down (negsuc n) h l = ap (moved_to limit) (less from (suc n) l)

  pub out : (z : ℤ) → z ≡ negsuc (mag z) → from < nat_abs z → moved_to limit (pos from +ℤ z) ≡ None
  unfolding moved_to
  out (pos n) h l = absurd (pos-ne-negsuc n n h)
  out (negsuc n) h l = ap (λ (t : Bool). moved_to limit (cond t (negsuc (suc n - suc from)) (pos (from - suc n)))) (lt-ltb from (suc n) l)

-- ---- the flag's part may be added first
pub flag_first : (last flag turn : ℕ) (z : ℤ) → pos (last + turn * flag) +ℤ z ≡ pos last +ℤ z +ℤ pos (flag * turn)
flag_first last flag turn z =
    ap (λ (k : ℕ). pos (last + k) +ℤ z) (mul_comm turn flag)
    ∙ ap (λ (y : ℤ). y +ℤ z) (sym (pos-+ℤ-pos last (flag * turn)))
    ∙ +ℤ_assoc (pos last) (pos (flag * turn)) z
    ∙ ap (λ (y : ℤ). pos last +ℤ y) (+ℤ_comm (pos (flag * turn)) z)
    ∙ sym (+ℤ_assoc (pos last) z (pos (flag * turn)))
