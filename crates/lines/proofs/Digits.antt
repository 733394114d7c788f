-- The text of a number: the library's, how long it is, and its last digit.
use mathlib.Core.Path.{◌≡◌, refl, sym, ◌∙◌}
use mathlib.Core.Bool.{Bool, true, false, cond}
use mathlib.Core.List.{List, [], ◌∷◌, ◌++◌}
use Prim.Native.Nat.{ℕ, zero, suc, ◌+◌, ◌/◌, ◌%◌, ◌^◌, ◌≤◌, ◌<◌}
use native.Mathlib.Omega.{arith}
use borrow.Author.Tests.{lt-ltb, le-ltb}
use lib.Dec.{ltb}
use lib.IntN.{ℤ, pos, negsuc}
use lib.ListN.{length, length-append}
use lib.Signed.{mag}
use Rattle.std.specs.Fmt as std
use Rattle.std.proofs.lemmas.Fmt.{AppendsLastDigit, decimal_from_appends, decimal_digit, decimal_step, length-decimal-le}
use Rattle.lines.specs.Decimal.{digits, digit_count_in, most_digits, digit_count, decimal, signed}

-- ---- how long
few : (short : Bool) {k m : ℕ} → k ≤ m → cond short 1 (suc k) ≤ suc m
few true h = omega arith
few false h = omega arith

count_most : (most n : ℕ) → digit_count_in most n ≤ most
unfolding digit_count_in
count_most zero n = omega arith
count_most (suc most) n = few (ltb n 10) (count_most most (n / 10))

digits_length : (k n : ℕ) → length (digits k n) ≡ k
unfolding digits
digits_length zero n = refl
digits_length (suc k) n = simp length-append (omega (arith, digits_length k (n / 10)))

pub decimal_length : (n : ℕ) → length (decimal n) ≤ most_digits
unfolding decimal digit_count
decimal_length n = rw digits_length (count_most most_digits n)

-- ---- the library's
counted : ℕ → ℕ → List ℕ
counted most n = digits (digit_count_in most n) n

last_digit_last : AppendsLastDigit counted
unfolding counted digits digit_count_in
last_digit_last =
    record {
      one = λ k n h. let e : n % 10 ≡ n = omega arith in rw (lt-ltb n 10 h, e);
      more = λ k n h. rw (le-ltb n 10 h);
    }

pub decimal_text : (n : ℕ) → n < 2 ^ 64 → std.decimal n ≡ decimal n
unfolding decimal digit_count counted
decimal_text n h = sym (decimal_from_appends counted last_digit_last most_digits n h (length-decimal-le most_digits n (omega arith) (omega arith) h))

-- ---- the last digit, and those before it
pub decimal_one : (n : ℕ) → n < 10 → decimal n ≡ (48 + n) ∷ []
decimal_one n h = sym (decimal_text n (omega arith)) ∙ decimal_digit n h

pub decimal_more : (n : ℕ) → 10 ≤ n → n < 2 ^ 64 → decimal n ≡ decimal (n / 10) ++ ((48 + n % 10) ∷ [])
decimal_more n h l = rw (← decimal_text n l, ← decimal_text (n / 10) (omega arith)) (decimal_step n h l)

-- ---- a number with its sign
pub signed_text : (z : ℤ) → mag z < 2 ^ 63 → std.signed_decimal z ≡ signed z
unfolding signed
signed_text (pos n) h = decimal_text n (omega (arith, h))
signed_text (negsuc n) h = rw (decimal_text (suc n) (omega (arith, h)))
