-- 01, Day sheet and its program: "Fields are decimal". A number as text, each byte an ASCII code.
use Rattle.std.specs.Prelude.{cond, List, [], ◌∷◌, ◌++◌, ℕ, zero, suc, ◌+◌, ◌/◌, ◌%◌, ltb, ℤ, pos, negsuc}

-- the last k digits, the most significant first
unfoldable pub digits : ℕ → ℕ → List ℕ
digits zero n = []
digits (suc k) n = digits k (n / 10) ++ ((48 + n % 10) ∷ [])

-- how many digits a number has, at least one and at most `most`
unfoldable pub digit_count_in : ℕ → ℕ → ℕ
digit_count_in zero n = 0
digit_count_in (suc most) n = cond (ltb n 10) 1 (suc (digit_count_in most (n / 10)))

-- 20 digits hold every number of 64 bits
abbrev pub most_digits : ℕ
most_digits = 20

unfoldable pub digit_count : ℕ → ℕ
digit_count n = digit_count_in most_digits n

unfoldable pub decimal : ℕ → List ℕ
decimal n = digits (digit_count n) n

-- a minus sign, 45, before a negative number: the paper prints an advance of −500 as `-500`
unfoldable pub signed : ℤ → List ℕ
signed (pos n) = decimal n
signed (negsuc n) = 45 ∷ decimal (suc n)
