-- 02, 3: examples of a search by place and day, on the register of the examples of places: of the meter at place 1, of day 20 an I of 9200
-- stands, a read of day 30 was withdrawn and one of day 40 is held.
use Rattle.std.specs.Prelude.{◌≡◌, List, ◌++◌, ℕ, length, Some, None}
use Rattle.terms.specs.declared.entry.Entry.{Entry}
use Rattle.calls.specs.PlaceExamples.{meter_entry, withdrawn_entry, held_entry, zeros, register}
use Rattle.meter.specs.Search.{searched, search_in, search_of}

abbrev opening : Entry
opening = record { kind = 2; day = 20; value = 9200; letter = 73; indicator = 0; flag = 0 }

-- THE CLAIM: one row for each example
pub record ExamplesHold : Type 0 where
  -- the find, and how many standing days were compared
  pub found : search_of 1 20 register ≡ searched 0 (Some opening) 1
  pub day_before : search_of 1 19 register ≡ searched 0 None 1
  pub day_after : search_of 1 21 register ≡ searched 0 None 1
  -- a withdrawn read and a held one are neither found nor compared
  pub withdrawn_passed : search_of 1 30 register ≡ searched 0 None 1
  pub held_passed : search_of 1 40 register ≡ searched 0 None 1
  pub none_stands : search_in 20 (meter_entry ++ zeros) ≡ searched 0 None 0
  -- refused as a report is: nothing found, no day compared
  pub not_enrolled : search_of 0 20 register ≡ searched 3 None 0
  pub damaged : search_in 20 (meter_entry ++ (withdrawn_entry ++ held_entry)) ≡ searched 4 None 0
  pub no_place : (bytes : List ℕ) → length bytes ≡ 32768 → search_of 64 20 bytes ≡ searched 3 None 0
  pub misfit : (bytes : List ℕ) → length bytes ≡ 32767 → search_of 1 20 bytes ≡ searched 2 None 0
