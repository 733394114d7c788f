-- 01, Calls: examples of 2 and 3, which every call checks first, and of Journal (place), which hands back a part of the register.
use Rattle.std.specs.Prelude.{◌≡◌, List, [], ◌∷◌, ◌++◌, ℕ, length, replicate}
use Rattle.terms.specs.Number.{accepted, misfit, no_meter}
use Rattle.calls.specs.Calls.{place_number, length_in, journal_length, journal_part}

-- ---- bytes of an area: a meter of four dials and capacity 5000, and entries after it
abbrev pub meter_entry : List ℕ
meter_entry = 1 ∷ 4 ∷ 136 ∷ 19 ∷ 0 ∷ 0 ∷ []

abbrev pub carry_entry : List ℕ
carry_entry = 5 ∷ 40 ∷ 35 ∷ 0 ∷ 0 ∷ 1 ∷ 0 ∷ 0 ∷ 0 ∷ []

-- of day 20 an I of 9200 that stands, of day 30 a C of 1 that was withdrawn, of day 40 a C of 9999 that is held
abbrev pub standing_entry : List ℕ
standing_entry = 2 ∷ 20 ∷ 0 ∷ 240 ∷ 35 ∷ 0 ∷ 0 ∷ 73 ∷ 0 ∷ 0 ∷ []

abbrev pub withdrawn_entry : List ℕ
withdrawn_entry = 3 ∷ 30 ∷ 0 ∷ 1 ∷ 0 ∷ 0 ∷ 0 ∷ 67 ∷ 0 ∷ 0 ∷ []

abbrev pub held_entry : List ℕ
held_entry = 4 ∷ 40 ∷ 0 ∷ 15 ∷ 39 ∷ 0 ∷ 0 ∷ 67 ∷ 0 ∷ 0 ∷ []

abbrev pub zeros : List ℕ
zeros = 0 ∷ 0 ∷ 0 ∷ []

-- all that is stored of the meter at place 1, in a register of zeros
abbrev pub stored : List ℕ
stored = meter_entry ++ (standing_entry ++ (withdrawn_entry ++ held_entry))

unfoldable pub register : List ℕ
register = replicate 512 0 ++ (stored ++ replicate 32220 0)

-- THE CLAIM: one row for each example
pub record PlaceExamplesHold : Type 0 where
  -- 2: "register length not 32,768"; 3: "place above 63". 2 comes first.
  pub first_place : (bytes : List ℕ) → length bytes ≡ 32768 → place_number 0 bytes ≡ accepted
  pub last_place : (bytes : List ℕ) → length bytes ≡ 32768 → place_number 63 bytes ≡ accepted
  pub past_the_last : (bytes : List ℕ) → length bytes ≡ 32768 → place_number 64 bytes ≡ no_meter
  pub a_byte_short : (bytes : List ℕ) → length bytes ≡ 32767 → place_number 63 bytes ≡ misfit
  pub a_byte_more : (bytes : List ℕ) → length bytes ≡ 32769 → place_number 63 bytes ≡ misfit
  pub misfit_first : (bytes : List ℕ) → length bytes ≡ 32767 → place_number 64 bytes ≡ misfit
  -- "from its start to its last entry's end": a held entry too, and a carry
  pub meter_alone : length_in (meter_entry ++ zeros) ≡ 6
  pub to_the_standing : length_in (meter_entry ++ (standing_entry ++ zeros)) ≡ 16
  pub to_the_withdrawn : length_in (meter_entry ++ (standing_entry ++ (withdrawn_entry ++ zeros))) ≡ 26
  pub to_the_held : length_in (meter_entry ++ (standing_entry ++ (held_entry ++ zeros))) ≡ 26
  pub after_the_carry : length_in (meter_entry ++ (carry_entry ++ (standing_entry ++ (held_entry ++ zeros)))) ≡ 35
  -- "the meter's part of the caller's own register"
  pub handed_back : journal_part 1 register ≡ stored
  -- "length 0 where report refuses": nothing enrolled, damaged, no such place, another length
  pub none_enrolled : length_in zeros ≡ 0
  pub damaged_none : length_in (meter_entry ++ (withdrawn_entry ++ held_entry)) ≡ 0
  pub no_place_none : (bytes : List ℕ) → length bytes ≡ 32768 → journal_length 64 bytes ≡ 0
  pub misfit_none : (bytes : List ℕ) → length bytes ≡ 32767 → journal_length 0 bytes ≡ 0
