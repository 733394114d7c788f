-- What is printed of a register: a line for each meter that is enrolled, in the order of their places.
use Rattle.std.specs.Prelude.{false, List, [], ◌∷◌, ◌++◌, ℕ, zero, suc, ◌/◌, ◌%◌, flat_map}
use Rattle.std.specs.Fmt.{decimal, digit_glyph}
use Rattle.register.specs.Area.{areas_in}
use Rattle.calls.specs.Calls.{journal_part}

-- a byte in hexadecimal: two digits, in lower case
unfoldable pub byte_text : ℕ → List ℕ
byte_text b = digit_glyph false (b / 16) ∷ digit_glyph false (b % 16) ∷ []

abbrev pub bytes_text : List ℕ → List ℕ
bytes_text bytes = flat_map byte_text bytes

-- the place, a space, the journal's bytes and a line feed; nothing where there is no journal
unfoldable pub line_of : ℕ → List ℕ → List ℕ
line_of place [] = []
line_of place (b ∷ bytes) = decimal place ++ (32 ∷ []) ++ bytes_text (b ∷ bytes) ++ (10 ∷ [])

-- the lines of the places below n
unfoldable pub lines_below : ℕ → List ℕ → List ℕ
lines_below zero register = []
lines_below (suc n) register = lines_below n register ++ line_of n (journal_part n register)

-- ---- the whole
unfoldable pub journals_text : List ℕ → List ℕ
journals_text register = lines_below (areas_in register) register
