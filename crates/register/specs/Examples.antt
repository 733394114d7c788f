-- 01, The register: examples that fix how many areas there are, where a byte is and what it says. The bytes of an entry, a head or a carry all
-- differ here, so that none can be taken for another.
use Rattle.std.specs.Prelude.{◌≡◌, true, false, List, [], ◌∷◌, ◌++◌, ℕ, ◌*◌, replicate}
use Rattle.terms.specs.declared.entry.Entry.{Entry}
use Rattle.terms.specs.declared.profile.Profile.{Profile}
use Rattle.terms.specs.declared.profile.Profile.TheVariants.{Ordinary, Pseudo}
use Rattle.register.specs.declared.head.Head.{Head}
use Rattle.register.specs.Area.{area_bytes, areas_in, register_bytes, area_of, with_area, all_zero}
use Rattle.register.specs.Bytes.{byte_at, word_at, long_at, put_word, put_long}
use Rattle.register.specs.Entries.{entry_start, entry_at, put_entry, zero_entry}
use Rattle.register.specs.Head.{no_carry, head_of, put_head, body_of, entry_offset}

-- three areas, each of one byte over and over
abbrev pub areas : ℕ → ℕ → ℕ → List ℕ
areas a b c = replicate 512 a ++ (replicate 512 b ++ replicate 512 c)

-- a standing read, and its ten bytes: 1027 is 3 + 256 × 4
abbrev pub read : Entry
read = record { kind = 2; day = 1027; value = 134678021; letter = 67; indicator = 1; flag = 0 }

abbrev pub read_bytes : List ℕ
read_bytes = 2 ∷ 3 ∷ 4 ∷ 5 ∷ 6 ∷ 7 ∷ 8 ∷ 67 ∷ 1 ∷ 0 ∷ []

-- a meter of four dials, and its bytes after the kind
abbrev pub meter : Profile → Head
meter profile = record { profile = profile; dials = 4; capacity = 101124105; carried = false; carry = no_carry }

abbrev pub meter_body : List ℕ
meter_body = 4 ∷ 9 ∷ 8 ∷ 7 ∷ 6 ∷ []

-- the same after a fold
abbrev pub folded : Head
folded =
    record {
      profile = Ordinary;
      dials = 4;
      capacity = 101124105;
      carried = true;
      carry = record { first = 218893066; folded = 3854; flagged = 4368 };
    }

abbrev pub folded_bytes : List ℕ
folded_bytes = 1 ∷ (meter_body ++ (5 ∷ 10 ∷ 11 ∷ 12 ∷ 13 ∷ 14 ∷ 15 ∷ 16 ∷ 17 ∷ []))

-- THE CLAIM: one row for each example
pub record RegisterExamplesHold : Type 0 where
  -- "32,768 lent bytes: 64 areas of 512."
  pub register_bytes_row : register_bytes ≡ 32768
  pub area_count : (register : List ℕ) → areas_in register ≡ 64
  pub area_bytes_row : area_bytes ≡ 512
  pub all_areas : area_bytes * areas_in [] ≡ register_bytes
  -- "The area of place p (..) starts at 512 × p."
  pub place_0 : area_of 0 (areas 1 2 3) ≡ replicate 512 1
  pub place_1 : area_of 1 (areas 1 2 3) ≡ replicate 512 2
  pub place_2 : area_of 2 (areas 1 2 3) ≡ replicate 512 3
  pub with_place_1 : with_area 1 (replicate 512 9) (areas 1 2 3) ≡ areas 1 9 3
  -- "An area is all zero (not enrolled)"
  pub zeros : all_zero (0 ∷ 0 ∷ 0 ∷ []) ≡ true
  pub first_not_zero : all_zero (1 ∷ 0 ∷ 0 ∷ []) ≡ false
  pub last_not_zero : all_zero (0 ∷ 0 ∷ 1 ∷ []) ≡ false
  -- "Multi-byte numbers are unsigned, low byte first.", and a byte past the end is 0
  pub byte_read : byte_at (2 ∷ 3 ∷ []) 1 ≡ 3
  pub past_the_end : byte_at (2 ∷ 3 ∷ []) 2 ≡ 0
  pub word_read : word_at (2 ∷ 3 ∷ 4 ∷ 5 ∷ 6 ∷ 7 ∷ []) 1 ≡ 1027
  pub long_read : long_at (2 ∷ 3 ∷ 4 ∷ 5 ∷ 6 ∷ 7 ∷ []) 1 ≡ 100992003
  pub word_written : put_word (2 ∷ 9 ∷ 9 ∷ 5 ∷ []) 1 1027 ≡ 2 ∷ 3 ∷ 4 ∷ 5 ∷ []
  pub long_written : put_long (2 ∷ 9 ∷ 9 ∷ 9 ∷ 9 ∷ 7 ∷ []) 1 100992003 ≡ 2 ∷ 3 ∷ 4 ∷ 5 ∷ 6 ∷ 7 ∷ []
  -- "day (2 bytes, ..), value (4 bytes, ..), type (ASCII letter), indicator (1 byte, ..), flag (1 byte, ..)", after the kind
  pub entry_read : entry_at (9 ∷ read_bytes) 1 ≡ read
  pub entry_written : put_entry (replicate 12 99) 1 read ≡ 99 ∷ (read_bytes ++ (99 ∷ []))
  -- "a held entry is zeroed": ten bytes, and none beside them
  pub entry_zeroed : put_entry (replicate 12 99) 1 zero_entry ≡ 99 ∷ (replicate 10 0 ++ (99 ∷ []))
  pub first_entry : entry_start 0 ≡ 0
  pub third_entry : entry_start 2 ≡ 20
  -- "Kind 1, meter, first and only first: dials n (1 byte, ..), capacity in m³ a year (4 bytes, ..)"; 02, 4: "Kind 7 stands where kind 1 would,
  -- same body"
  pub meter_read : head_of (1 ∷ meter_body) ≡ meter Ordinary
  pub pseudo_read : head_of (7 ∷ meter_body) ≡ meter Pseudo
  pub meter_written : put_head (replicate 7 99) (meter Ordinary) ≡ 1 ∷ (meter_body ++ (99 ∷ []))
  pub pseudo_written : put_head (replicate 7 99) (meter Pseudo) ≡ 7 ∷ (meter_body ++ (99 ∷ []))
  -- 02, 2: "a carry, kind 5, right after kind 1: first value (4 bytes), folded reads (2), flagged among them (2)"
  pub carry_read : head_of folded_bytes ≡ folded
  pub carry_written : put_head (replicate 16 99) folded ≡ folded_bytes ++ (99 ∷ [])
  -- the entries follow the head
  pub body : body_of (1 ∷ (meter_body ++ read_bytes)) ≡ read_bytes
  pub body_after_a_carry : body_of (folded_bytes ++ read_bytes) ≡ read_bytes
  pub third_in_the_area : entry_offset (1 ∷ meter_body) 2 ≡ 26
  pub third_after_a_carry : entry_offset folded_bytes 2 ≡ 35
