-- 01, The register: "Types: I initial, O opening, F final, C cyclic, U customer, R AMR, T transfer, S estimated transfer, X disconnection,
-- Y reconnection, E end." A type is its ASCII letter.
use Rattle.std.specs.Prelude.{Bool, ◌||◌, ℕ, eqb}

abbrev pub letter_i : ℕ
letter_i = 73

abbrev pub letter_o : ℕ
letter_o = 79

abbrev pub letter_f : ℕ
letter_f = 70

abbrev pub letter_c : ℕ
letter_c = 67

abbrev pub letter_u : ℕ
letter_u = 85

abbrev pub letter_r : ℕ
letter_r = 82

abbrev pub letter_t : ℕ
letter_t = 84

abbrev pub letter_s : ℕ
letter_s = 83

abbrev pub letter_x : ℕ
letter_x = 88

abbrev pub letter_y : ℕ
letter_y = 89

abbrev pub letter_e : ℕ
letter_e = 69

-- one of the eleven
unfoldable pub is_known : ℕ → Bool
is_known l =
    eqb l letter_i
    || (eqb l letter_o
    || (eqb l letter_f
    || (eqb l letter_c
    || (eqb l letter_u
    || (eqb l letter_r
    || (eqb l letter_t || (eqb l letter_s || (eqb l letter_x || (eqb l letter_y || eqb l letter_e)))))))))

-- "type I or O"
unfoldable pub is_opening : ℕ → Bool
is_opening l = eqb l letter_i || eqb l letter_o

-- "at most one is F"
unfoldable pub is_final : ℕ → Bool
is_final l = eqb l letter_f

-- "of type C U R T S F X or E": a read that may be held
unfoldable pub is_holdable : ℕ → Bool
is_holdable l =
    eqb l letter_c
    || (eqb l letter_u
    || (eqb l letter_r || (eqb l letter_t || (eqb l letter_s || (eqb l letter_f || (eqb l letter_x || eqb l letter_e))))))

-- 01, Volume: "I, O and Y have no volume check."
unfoldable pub is_unchecked : ℕ → Bool
is_unchecked l = eqb l letter_i || (eqb l letter_o || eqb l letter_y)
