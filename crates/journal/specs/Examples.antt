-- 01, The register: examples that fix when a journal is sound. Beside a sound one stands a neighbour that differs in one clause alone and is not.
-- Lists of entries have the newest first.
use Rattle.std.specs.Prelude.{◌≡◌, Bool, true, false, List, [], ◌∷◌, ◌++◌, ℕ, replicate, Some, None}
use Rattle.terms.specs.declared.entry.Entry.{Entry}
use Rattle.terms.specs.declared.profile.Profile.TheVariants.{Ordinary}
use Rattle.terms.specs.Letter.{letter_i, letter_o, letter_f, letter_c, letter_u, letter_r, letter_t, letter_s, letter_x, letter_y, letter_e, is_known}
use Rattle.terms.specs.Tables.{bytes}
use Rattle.register.specs.declared.head.Carry.{Carry}
use Rattle.register.specs.declared.head.Head.{Head}
use Rattle.register.specs.Head.{no_carry}
use Rattle.journal.specs.Journal.{Journal, entry_count, journal_of, area_for, kept, held_of, on_day, first_value, oldest_of, newest_at, standing}
use Rattle.journal.specs.Sound.{are_sound, is_sound}

-- an entry by its fields, and a read by its kind, day and type, whose value is its day
abbrev pub entry : ℕ → ℕ → ℕ → ℕ → ℕ → ℕ → Entry
entry kind day value letter indicator flag =
    record { kind = kind; day = day; value = value; letter = letter; indicator = indicator; flag = flag }

abbrev pub stands : ℕ → ℕ → Entry
stands day letter = entry 2 day day letter 0 0

abbrev pub withdrawn : ℕ → ℕ → Entry
withdrawn day letter = entry 3 day day letter 0 0

abbrev pub held : ℕ → ℕ → Entry
held day letter = entry 4 day day letter 0 0

-- an initial read, and a cyclic one after it
abbrev pub one : List Entry
one = stands 100 letter_i ∷ []

abbrev pub two : List Entry
two = stands 200 letter_c ∷ one

-- whether entries are sound on four dials, and after a carry of one read
abbrev pub plate : Bool → Carry → Head
plate carried carry = record { profile = Ordinary; dials = 4; capacity = 5000; carried = carried; carry = carry }

abbrev pub sound : List Entry → Bool
sound es = are_sound (plate false no_carry) es

abbrev pub carried : List Entry → Bool
carried es = are_sound (plate true (record { first = 40; folded = 1; flagged = 0 })) es

-- a journal and its bytes: the meter, then an initial read and a withdrawn one
abbrev pub meter_bytes : List ℕ
meter_bytes = 1 ∷ 4 ∷ 136 ∷ 19 ∷ 0 ∷ 0 ∷ []

abbrev pub two_bytes : List ℕ
two_bytes = 2 ∷ 100 ∷ 0 ∷ 100 ∷ 0 ∷ 0 ∷ 0 ∷ 73 ∷ 0 ∷ 0 ∷ 3 ∷ 200 ∷ 0 ∷ 200 ∷ 0 ∷ 0 ∷ 0 ∷ 67 ∷ 0 ∷ 0 ∷ []

abbrev pub journal : Journal
journal = record { head = plate false no_carry; entries = withdrawn 200 letter_c ∷ one }

-- reads of every kind
abbrev pub all : List Entry
all = held 500 letter_c ∷ withdrawn 400 letter_c ∷ stands 300 letter_c ∷ withdrawn 250 letter_u ∷ two

-- THE CLAIM: one row for each example
pub record SoundExamplesHold : Type 0 where
  pub empty : sound [] ≡ true
  pub one_stands : sound one ≡ true
  pub two_stand : sound two ≡ true
  pub of_every_kind : sound all ≡ true
  -- "Kinds 2 standing, 3 withdrawn, 4 held", and no other after the first
  pub kinds : bytes (λ kind. sound (entry kind 200 200 letter_c 0 0 ∷ one)) ≡ 2 ∷ 3 ∷ 4 ∷ []
  -- "day (2 bytes, 1 to 65,535; ..)"
  pub day_1 : sound (stands 1 letter_i ∷ []) ≡ true
  pub day_0 : sound (stands 0 letter_i ∷ []) ≡ false
  pub day_0_withdrawn : sound (withdrawn 0 letter_c ∷ one) ≡ false
  -- "value (4 bytes, below 10^n)"
  pub value_9999 : sound (entry 2 200 9999 letter_c 0 0 ∷ one) ≡ true
  pub value_10000 : sound (entry 2 200 10000 letter_c 0 0 ∷ one) ≡ false
  pub value_10000_withdrawn : sound (entry 3 200 10000 letter_c 0 0 ∷ one) ≡ false
  -- "type (ASCII letter)": of a withdrawn read any of the eleven
  pub types : bytes (λ letter. sound (withdrawn 200 letter ∷ one)) ≡ bytes is_known
  -- "indicator (1 byte: 0 not set, 1 false, 2 true)"
  pub indicators : bytes (λ indicator. sound (entry 2 200 200 letter_c indicator 0 ∷ one)) ≡ 0 ∷ 1 ∷ 2 ∷ []
  -- "flag (1 byte, 1 if rollover, else 0)"
  pub flags : bytes (λ flag. sound (entry 2 200 200 letter_c 0 flag ∷ one)) ≡ 0 ∷ 1 ∷ []
  -- "I and O have indicator 0 wherever they appear."
  pub indicator_of_i : bytes (λ indicator. sound (entry 2 100 100 letter_i indicator 0 ∷ [])) ≡ 0 ∷ []
  pub indicator_of_o : bytes (λ indicator. sound (entry 2 100 100 letter_o indicator 0 ∷ [])) ≡ 0 ∷ []
  pub indicator_of_i_withdrawn : bytes (λ indicator. sound (entry 3 200 200 letter_i indicator 0 ∷ one)) ≡ 0 ∷ []
  pub indicator_of_o_after_a_carry : bytes (λ indicator. carried (entry 2 100 100 letter_o indicator 0 ∷ [])) ≡ 0 ∷ []
  -- "Standing days strictly rise."
  pub day_later : sound (entry 2 101 7 letter_c 0 0 ∷ one) ≡ true
  pub day_again : sound (entry 2 100 7 letter_c 0 0 ∷ one) ≡ false
  pub day_earlier : sound (entry 2 99 7 letter_c 0 0 ∷ one) ≡ false
  pub withdrawn_day_earlier : sound (withdrawn 99 letter_c ∷ one) ≡ true
  -- "The first standing read is type I or O with flag 0"
  pub opens : bytes (λ letter. sound (stands 100 letter ∷ [])) ≡ letter_i ∷ letter_o ∷ []
  pub opens_with_flag : bytes (λ flag. sound (entry 2 100 100 letter_i 0 flag ∷ [])) ≡ 0 ∷ []
  pub opens_after_withdrawn : sound (stands 100 letter_o ∷ withdrawn 200 letter_c ∷ []) ≡ true
  -- "no later one is I or O"
  pub later : bytes (λ letter. sound (stands 200 letter ∷ one)) ≡ letter_c ∷ letter_e ∷ letter_f ∷ letter_r ∷ letter_s ∷ letter_t ∷ letter_u ∷ letter_x ∷ letter_y ∷ []
  -- 02, 2: "in a carried journal the first standing read may have any type and flag", and a later one is none of I and O either
  pub carried_opens : bytes (λ letter. carried (stands 100 letter ∷ [])) ≡ bytes is_known
  pub carried_flag_of_i : bytes (λ flag. carried (entry 2 100 100 letter_i 0 flag ∷ [])) ≡ 0 ∷ 1 ∷ []
  pub carried_flag_of_o : bytes (λ flag. carried (entry 2 100 100 letter_o 0 flag ∷ [])) ≡ 0 ∷ 1 ∷ []
  pub carried_flag_of_c : bytes (λ flag. carried (entry 2 100 100 letter_c 0 flag ∷ [])) ≡ 0 ∷ 1 ∷ []
  pub carried_flag_of_f : bytes (λ flag. carried (entry 2 100 100 letter_f 0 flag ∷ [])) ≡ 0 ∷ 1 ∷ []
  pub carried_later_i : carried (stands 200 letter_i ∷ stands 100 letter_c ∷ []) ≡ false
  pub carried_later_o : carried (stands 200 letter_o ∷ stands 100 letter_c ∷ []) ≡ false
  -- ".. and a read stands."
  pub carried_none_stands : carried (withdrawn 200 letter_c ∷ []) ≡ false
  -- "at most one is F"
  pub one_final : sound (stands 300 letter_c ∷ stands 200 letter_f ∷ one) ≡ true
  pub two_final : sound (stands 300 letter_f ∷ stands 200 letter_f ∷ one) ≡ false
  pub two_final_apart : sound (stands 400 letter_f ∷ stands 300 letter_c ∷ stands 200 letter_f ∷ one) ≡ false
  pub final_withdrawn : sound (stands 300 letter_f ∷ withdrawn 200 letter_f ∷ one) ≡ true
  -- "No standing read has both the day and the value of a withdrawn one.", whichever comes first
  pub other_value : sound (entry 2 200 7 letter_c 0 0 ∷ withdrawn 200 letter_c ∷ one) ≡ true
  pub other_day : sound (entry 2 201 200 letter_c 0 0 ∷ withdrawn 200 letter_c ∷ one) ≡ true
  pub same_read : sound (entry 2 200 200 letter_u 1 1 ∷ withdrawn 200 letter_c ∷ one) ≡ false
  pub same_read_later : sound (withdrawn 100 letter_c ∷ one) ≡ false
  pub withdrawn_twice : sound (withdrawn 200 letter_c ∷ withdrawn 200 letter_c ∷ one) ≡ true
  -- "A held read is the last entry"
  pub held_before_withdrawn : sound (withdrawn 300 letter_c ∷ held 200 letter_c ∷ one) ≡ false
  pub held_before_standing : sound (stands 300 letter_c ∷ held 200 letter_c ∷ one) ≡ false
  pub two_held : sound (held 300 letter_c ∷ held 200 letter_c ∷ one) ≡ false
  -- "of type C U R T S F X or E"
  pub held_types : bytes (λ letter. sound (held 200 letter ∷ one)) ≡ letter_c ∷ letter_e ∷ letter_f ∷ letter_r ∷ letter_s ∷ letter_t ∷ letter_u ∷ letter_x ∷ []
  -- "later than a standing read that exists and than every one"
  pub held_later : sound (held 201 letter_c ∷ two) ≡ true
  pub held_same_day : sound (entry 4 200 7 letter_c 0 0 ∷ two) ≡ false
  pub held_earlier : sound (held 199 letter_c ∷ two) ≡ false
  pub held_earlier_than_withdrawn : sound (held 201 letter_c ∷ withdrawn 300 letter_c ∷ two) ≡ true
  pub held_none_stands : sound (held 201 letter_c ∷ withdrawn 100 letter_i ∷ []) ≡ false
  -- "and not F if an F stands"
  pub held_after_final : sound (held 300 letter_c ∷ stands 200 letter_f ∷ one) ≡ true
  pub held_second_final : sound (held 300 letter_f ∷ stands 200 letter_f ∷ one) ≡ false
  pub held_final_after_withdrawn : sound (held 300 letter_f ∷ withdrawn 200 letter_f ∷ one) ≡ true
  -- "A sound journal has at most 50 entries after the first."; 02, 2: "After a carry at most 49 entries follow"
  pub no_entry : entry_count (meter_bytes ++ replicate 20 0) ≡ 0
  pub two_entries : entry_count (meter_bytes ++ (two_bytes ++ replicate 20 0)) ≡ 2
  pub fifty_entries : entry_count (meter_bytes ++ replicate 510 2) ≡ 50
  pub fewer_after_a_carry : entry_count (meter_bytes ++ replicate 510 5) ≡ 49
  -- "entries of one kind byte and a body whose length the kind fixes, then zeros to the end"
  pub journal_read : journal_of (meter_bytes ++ (two_bytes ++ replicate 20 0)) ≡ journal
  pub journal_written : area_for journal ≡ meter_bytes ++ (two_bytes ++ replicate 486 0)
  pub zeros_to_the_end : is_sound (meter_bytes ++ (two_bytes ++ replicate 20 0)) ≡ true
  pub not_all_zeros : is_sound (meter_bytes ++ (two_bytes ++ (replicate 19 0 ++ (1 ∷ [])))) ≡ false
  -- "Kind 1, meter, first and only first"
  pub only_first : is_sound (meter_bytes ++ (meter_bytes ++ replicate 20 0)) ≡ false
  pub no_first : is_sound (two_bytes ++ replicate 20 0) ≡ false
  -- what is asked of a journal's entries
  pub kept_entries : kept all ≡ 5
  pub held_entry_row : held_of all ≡ Some (held 500 letter_c)
  pub none_held : held_of two ≡ None
  pub on_its_day : on_day 200 (standing all) ≡ Some (stands 200 letter_c)
  pub on_a_withdrawn_day : on_day 400 (standing all) ≡ None
  pub first_value_row : first_value (standing all) ≡ 100
  pub oldest : oldest_of (standing all) ≡ Some (stands 100 letter_i)
  pub newest_place : newest_at all ≡ 3
