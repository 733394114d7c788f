-- A number with a bit for each of 64 places. A value's place is its remainder.
use Rattle.std.specs.Prelude.{Bool, ℕ, ◌^◌, ◌/◌, ◌%◌, eqb}
use Rattle.std.specs.Int.Bits.{bit_or}

-- the bit at a value's place
unfoldable pub mark_of : ℕ → ℕ → ℕ
mark_of marks v = marks / 2 ^ (v % 64) % 2

abbrev pub is_marked : ℕ → ℕ → Bool
is_marked marks v = eqb (mark_of marks v) 1

unfoldable pub mark_on : ℕ → ℕ → ℕ
mark_on marks v = bit_or marks (2 ^ (v % 64))
