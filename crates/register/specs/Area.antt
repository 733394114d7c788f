-- 01, The register: "32,768 lent bytes: 64 areas of 512. The area of place p (one byte, 0 to 63) starts at 512 × p."
use Rattle.std.specs.Prelude.{Bool, true, ◌&&◌, List, [], ◌∷◌, ◌++◌, ℕ, ◌+◌, ◌*◌, eqb, take, drop}

abbrev pub area_bytes : ℕ
area_bytes = 512

-- how many areas a register has
unfoldable pub areas_in : List ℕ → ℕ
areas_in register = 64

abbrev pub register_bytes : ℕ
register_bytes = 32768

-- the area of place p
unfoldable pub area_of : ℕ → List ℕ → List ℕ
area_of p register = take area_bytes (drop (area_bytes * p) register)

-- the register with other bytes in the area of place p
unfoldable pub with_area : ℕ → List ℕ → List ℕ → List ℕ
with_area p area register = take (area_bytes * p) register ++ (area ++ drop (area_bytes * p + area_bytes) register)

-- "An area is all zero (not enrolled)"
unfoldable pub all_zero : List ℕ → Bool
all_zero [] = true
all_zero (b ∷ bs) = eqb b 0 && all_zero bs
