-- What a caller may know of a power and of an advance without opening them: their bounds, and what a flag adds.
use mathlib.Core.Path.{◌≡◌, sym, ap, ◌∙◌}
use mathlib.Core.Bool.{Bool, true, false, cond}
use Prim.Native.Nat.{ℕ, ◌*◌, ◌^◌, ◌≤◌, ◌<◌}
use native.Mathlib.Nat.{mul-le-mul, pow-le-pow_right, zero-mul, one-mul}
use native.Mathlib.Omega.{arith}
use lib.Dec.{ltb}
use lib.IntN.{pos, ◌+ℤ◌, ◌-ℤ◌, +ℤ_idr}
use borrow.Author.Tests.{ltb-true, lt-ltb, le-ltb}
use Rattle.arithmetic.specs.Powers.{ten_to}
use Rattle.arithmetic.specs.Advance.{advance_of}
use Rattle.arithmetic.specs.Inner.Bounds.{advance_most, Within}
use Rattle.arithmetic.proofs.Signed.{within_difference, within_sum, within_pos}

pub in_table : {n : ℕ} → n < 10 → ten_to n ≡ 10 ^ n
unfolding ten_to
in_table {n} h = ap (λ (b : Bool). cond b (10 ^ n) 0) (lt-ltb n 10 h)

pub past_table : {n : ℕ} → 10 ≤ n → ten_to n ≡ 0
unfolding ten_to
past_table {n} h = ap (λ (b : Bool). cond b (10 ^ n) 0) (le-ltb n 10 h)

ten_at_most_if : (n : ℕ) (b : Bool) → (b ≡ true → n < 10) → cond b (10 ^ n) 0 ≤ 1000000000
ten_at_most_if n true h = let l : n < 10 = h (λ _. true) in pow-le-pow_right {n = 10} (omega arith) {j = 9} (omega arith)
ten_at_most_if n false h = omega arith

pub ten_at_most : (n : ℕ) → ten_to n ≤ 1000000000
unfolding ten_to
ten_at_most n = ten_at_most_if n (ltb n 10) (ltb-true n 10)

pub turned_at_most : (n flags : ℕ) → flags ≤ 255 → flags * ten_to n ≤ 255000000000
turned_at_most n flags h = mul-le-mul {n₂ = 255} {m₂ = 1000000000} h (ten_at_most n)

pub advance_within : (n newer flags older : ℕ) → newer ≤ 4294967295 → flags ≤ 255 → older ≤ 4294967295 → Within (advance_of n newer flags older) advance_most
unfolding advance_of
advance_within n newer flags older a f b = within_sum (within_difference {m = 4294967295} a b) (within_pos (turned_at_most n flags f))

-- without a flag an advance is the difference of the values, and a flag adds 10^n to it
module _ (n newer older : ℕ) where
  pub advance_plain : advance_of n newer 0 older ≡ pos newer -ℤ pos older
  unfolding advance_of
  advance_plain = ap (λ (k : ℕ). pos newer -ℤ pos older +ℤ pos k) (zero-mul (ten_to n)) ∙ +ℤ_idr (pos newer -ℤ pos older)

  pub advance_turned : advance_of n newer 0 older +ℤ pos (ten_to n) ≡ advance_of n newer 1 older
  unfolding advance_of
  advance_turned = rw advance_plain (ap (λ (k : ℕ). pos newer -ℤ pos older +ℤ pos k) (sym (one-mul (ten_to n))))
