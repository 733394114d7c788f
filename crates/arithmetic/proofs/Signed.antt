-- Signed 64-bit words and the numbers that they read as. Two notions carry a bound through a computation: `Within z m`, that |z| is at most m,
-- and `Word x z m`, that the word x reads as such a z. Each operation's need and its result then follow from its operands.
use mathlib.Core.Path.{◌≡◌, refl}
use Prim.Native.Nat.{ℕ, zero, suc, ◌+◌, ◌-◌, ◌*◌, ◌^◌, ◌≤◌, ◌<◌}
use native.Mathlib.Nat.{mul-le-mul}
use native.Mathlib.Omega.{arith}
use mathlib.Core.Bool.{Bool, true, false, cond}
use lib.Dec.{T, ltb, ltb→lt}
use lib.IntN.{ℤ, pos, negsuc, neg_ℤ, nat_abs, sub_ℕ, ◌+ℤ◌, ◌-ℤ◌, ◌*ℤ◌}
use lib.Signed.{mag}
use mir.Syntax.{w64}
use mir.Val.{SFits, to_z, of_z}
use mir.ValLaws.{to_z_pos, to_z-of_z}
use Rattle.arithmetic.specs.Inner.Bounds.{Within}

-- ---- the size of a sum, a difference, a product
cond_at_most : (t : Bool) (x y : ℤ) (m : ℕ) → (T t → nat_abs x ≤ m) → nat_abs y ≤ m → nat_abs (cond t x y) ≤ m
cond_at_most true x y m p q = p tt
cond_at_most false x y m p q = q

size_difference : (a b m : ℕ) → a ≤ m → b ≤ m → nat_abs (sub_ℕ a b) ≤ m
size_difference a b m p q =
    cond_at_most (ltb a b) (negsuc (b - suc a)) (pos (a - b)) m (λ t. let h : a < b = ltb→lt a b t in omega arith) (omega arith)

size_sum : (a b : ℤ) → nat_abs (a +ℤ b) ≤ nat_abs a + nat_abs b
size_sum (pos a) (pos b) = omega arith
size_sum (pos a) (negsuc b) = size_difference a (suc b) (a + suc b) (omega arith) (omega arith)
size_sum (negsuc a) (pos b) = omega (arith, size_difference b (suc a) (b + suc a) (omega arith) (omega arith))
size_sum (negsuc a) (negsuc b) = omega arith

size_negated_pos : (n : ℕ) → nat_abs (neg_ℤ (pos n)) ≡ n
size_negated_pos zero = refl
size_negated_pos (suc n) = refl

size_negated : (a : ℤ) → nat_abs (neg_ℤ a) ≡ nat_abs a
size_negated (pos n) = size_negated_pos n
size_negated (negsuc n) = refl

size_product : (a b : ℤ) → nat_abs (a *ℤ b) ≡ nat_abs a * nat_abs b
size_product (pos a) (pos b) = refl
size_product (pos a) (negsuc b) = size_negated_pos (a * suc b)
size_product (negsuc a) (pos b) = size_negated_pos (suc a * b)
size_product (negsuc a) (negsuc b) = refl

mag_at_most : (z : ℤ) → mag z ≤ nat_abs z
mag_at_most (pos n) = omega arith
mag_at_most (negsuc n) = omega arith

-- ---- Within
pub within_pos : {n m : ℕ} → n ≤ m → Within (pos n) m
within_pos h = record { within = h }

pub within_negated : {a : ℤ} {m : ℕ} → Within a m → Within (neg_ℤ a) m
within_negated {a} h = record { within = rw size_negated h.within }

pub within_sum : {a b : ℤ} {m n : ℕ} → Within a m → Within b n → Within (a +ℤ b) (m + n)
within_sum {a} {b} h k = record { within = omega (arith, size_sum a b, h.within, k.within) }

size_apart : (a b m : ℕ) → a ≤ m → b ≤ m → nat_abs (pos a -ℤ pos b) ≤ m
size_apart a zero m p q = omega arith
size_apart a (suc b) m p q = size_difference a (suc b) m p q

pub within_difference : {a b m : ℕ} → a ≤ m → b ≤ m → Within (pos a -ℤ pos b) m
within_difference {a} {b} {m} h k = record { within = size_apart a b m h k }

pub within_product : {a b : ℤ} {m n : ℕ} → Within a m → Within b n → Within (a *ℤ b) (m * n)
within_product {a} {b} h k = record { within = rw size_product (mul-le-mul h.within k.within) }

-- ---- words: the bound is a numeral, and `tt` shows that it is below 2^63
pub within_fits : {z : ℤ} {m : ℕ} → Within z m → T (ltb m (2 ^ 63)) → SFits w64 z
within_fits {z} {m} h t = record { sfits = omega (arith, mag_at_most z, h.within, ltb→lt m (2 ^ 63) t) }

pub record Word (x : ℕ) (z : ℤ) (m : ℕ) : Type 0 where
  pub reads : to_z w64 x ≡ z
  pub bound : Within z m

-- an unsigned number, cast
pub word_cast : {n m : ℕ} → n ≤ m → T (ltb m (2 ^ 63)) → Word n (pos n) m
word_cast {n} {m} h t =
    record { reads = to_z_pos w64 n (omega (arith, ltb→lt m (2 ^ 63) t)); bound = within_pos h }

-- a signed number that came from elsewhere
pub word_of : {z : ℤ} {m : ℕ} → Within z m → T (ltb m (2 ^ 63)) → Word (of_z w64 z) z m
word_of {z} h t = record { reads = to_z-of_z w64 z (within_fits h t); bound = h }

-- the difference of two unsigned numbers, cast
module _ (a b m : ℕ) (h : a ≤ m) (k : b ≤ m) (t : T (ltb m (2 ^ 63))) where
  pub fits_difference : SFits w64 (to_z w64 a -ℤ to_z w64 b)
  fits_difference = rw ((word_cast h t).reads, (word_cast k t).reads) (within_fits (within_difference h k) t)

  pub word_difference : Word (of_z w64 (to_z w64 a -ℤ to_z w64 b)) (pos a -ℤ pos b) m
  word_difference = rw ((word_cast h t).reads, (word_cast k t).reads) (word_of (within_difference h k) t)

module _ {x y : ℕ} {a b : ℤ} {m n : ℕ} (h : Word x a m) (k : Word y b n) where
  pub fits_sum : T (ltb (m + n) (2 ^ 63)) → SFits w64 (to_z w64 x +ℤ to_z w64 y)
  fits_sum t = rw (h.reads, k.reads) (within_fits (within_sum h.bound k.bound) t)

  pub word_sum : T (ltb (m + n) (2 ^ 63)) → Word (of_z w64 (to_z w64 x +ℤ to_z w64 y)) (a +ℤ b) (m + n)
  word_sum t = rw (h.reads, k.reads) (word_of (within_sum h.bound k.bound) t)

  pub fits_product : T (ltb (m * n) (2 ^ 63)) → SFits w64 (to_z w64 x *ℤ to_z w64 y)
  fits_product t = rw (h.reads, k.reads) (within_fits (within_product h.bound k.bound) t)

  pub word_product : T (ltb (m * n) (2 ^ 63)) → Word (of_z w64 (to_z w64 x *ℤ to_z w64 y)) (a *ℤ b) (m * n)
  word_product t = rw (h.reads, k.reads) (word_of (within_product h.bound k.bound) t)
