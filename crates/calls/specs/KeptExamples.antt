-- 02, 2, and 01, The register: examples that fix which numbers keep a read out, and which areas are all zero or sound.
use Rattle.std.specs.Prelude.{◌≡◌, true, false, List, [], ◌∷◌, ◌++◌, ℕ, ◌-◌, length, replicate}
use Rattle.terms.specs.declared.profile.Profile.TheVariants.{Pseudo}
use Rattle.terms.specs.declared.submission.Submission.{Submission}
use Rattle.terms.specs.Entry.{indicator_not_set}
use Rattle.terms.specs.Letter.{letter_i, letter_c}
use Rattle.terms.specs.Number.{accepted, repeat, damaged, missing, content, date, withdrawn_read, read_at, read_eh, read_bf, back_dated, read_df, oldest_kept, other_type}
use Rattle.terms.specs.Rule.{first_broken}
use Rattle.register.specs.Area.{area_bytes}
use Rattle.register.specs.Head.{no_carry}
use Rattle.journal.specs.Journal.{Journal}
use Rattle.calls.specs.Checks.{unpopulated, submit_rules}
use Rattle.calls.specs.Fold.{folded_journal}
use Rattle.calls.specs.FoldKeeps.{is_out_by_day, is_kept_out, is_wrong_by_itself, is_wrong_number}
use Rattle.calls.specs.Kept.{is_good}
use Rattle.calls.specs.Examples.{full, plate, read}
use Rattle.calls.specs.ProfileExamples.{plate_is}

-- a read of a type, with an indicator, of the day and value of a withdrawn one
abbrev pub resent : ℕ → ℕ → Submission
resent letter indicator =
    record { submitted = 1600; day = 1360; value = 9601; letter = letter; indicator = indicator; reread = 0 }

-- what a submission is answered at a sound journal
abbrev pub number_in : Submission → Journal → ℕ
number_in s j = first_broken (submit_rules s j)

-- ---- an area: its first bytes, "then zeros to the end"
abbrev pub area_with : List ℕ → List ℕ
area_with bytes = bytes ++ replicate (area_bytes - length bytes) 0

-- four dials and 5000 m³ a year
abbrev pub meter_of : ℕ → List ℕ
meter_of kind = kind ∷ 4 ∷ 136 ∷ 19 ∷ 0 ∷ 0 ∷ []

-- a standing read of a type, day 1000 and value 9200
abbrev pub read_of : ℕ → List ℕ
read_of letter = 2 ∷ 232 ∷ 3 ∷ 240 ∷ 35 ∷ 0 ∷ 0 ∷ letter ∷ 0 ∷ 0 ∷ []

-- a carry: first value 9000, three folded, one of them flagged
abbrev pub carry_of : List ℕ
carry_of = 5 ∷ 40 ∷ 35 ∷ 0 ∷ 0 ∷ 3 ∷ 0 ∷ 1 ∷ 0 ∷ []

-- THE CLAIM: one row for each example
pub record KeptExamplesHold : Type 0 where
  -- "one of 9 to 12"
  pub accepted_not_by_day : is_out_by_day accepted ≡ false
  pub repeat_not_by_day : is_out_by_day repeat ≡ false
  pub date_not_by_day : is_out_by_day date ≡ false
  pub withdrawn_not_by_day : is_out_by_day withdrawn_read ≡ false
  pub nine_by_day : is_out_by_day read_at ≡ true
  pub ten_by_day : is_out_by_day read_eh ≡ true
  pub eleven_by_day : is_out_by_day read_bf ≡ true
  pub twelve_by_day : is_out_by_day back_dated ≡ true
  pub thirteen_not_by_day : is_out_by_day read_df ≡ false
  pub other_type_not_by_day : is_out_by_day other_type ≡ false
  -- that, or 8
  pub accepted_not_out : is_kept_out accepted ≡ false
  pub repeat_not_out : is_kept_out repeat ≡ false
  pub date_not_out : is_kept_out date ≡ false
  pub withdrawn_out : is_kept_out withdrawn_read ≡ true
  pub nine_out : is_kept_out read_at ≡ true
  pub twelve_out : is_kept_out back_dated ≡ true
  pub thirteen_not_out : is_kept_out read_df ≡ false
  pub other_type_not_out : is_kept_out other_type ≡ false
  -- 5, 6, 29 and 7: their numbers, and what they are of
  pub accepted_not_wrong : is_wrong_number accepted ≡ false
  pub repeat_not_wrong : is_wrong_number repeat ≡ false
  pub damaged_not_wrong : is_wrong_number damaged ≡ false
  pub missing_wrong : is_wrong_number missing ≡ true
  pub content_wrong : is_wrong_number content ≡ true
  pub date_wrong : is_wrong_number date ≡ true
  pub withdrawn_not_wrong : is_wrong_number withdrawn_read ≡ false
  pub oldest_kept_not_wrong : is_wrong_number oldest_kept ≡ false
  pub other_type_wrong : is_wrong_number other_type ≡ true
  pub read_right : is_wrong_by_itself (plate false no_carry) (read 1360 9601) ≡ false
  pub read_missing : is_wrong_by_itself (plate false no_carry) (read 1360 unpopulated) ≡ true
  pub read_too_large : is_wrong_by_itself (plate false no_carry) (read 1360 10000) ≡ true
  pub read_undated : is_wrong_by_itself (plate false no_carry) (read 0 9601) ≡ true
  pub read_from_later : is_wrong_by_itself (plate false no_carry) (read 1601 9601) ≡ true
  pub read_on_a_pseudo_meter : is_wrong_by_itself (plate_is Pseudo false no_carry) (read 1360 9601) ≡ true
  pub initial_on_a_pseudo_meter : is_wrong_by_itself (plate_is Pseudo false no_carry) (resent letter_i indicator_not_set) ≡ false
  -- "a resubmission that was 8 before is one of 9 to 12 from then on", and 8 still if it is later than the oldest kept read, of day 1360
  pub early_before : number_in (read 1200 2) full ≡ withdrawn_read
  pub early_after : number_in (read 1200 2) (folded_journal full) ≡ back_dated
  pub same_day_before : number_in (read 1360 9601) full ≡ withdrawn_read
  pub same_day_after : number_in (read 1360 9601) (folded_journal full) ≡ read_bf
  pub other_indicator_before : number_in (resent letter_c indicator_not_set) full ≡ withdrawn_read
  pub other_indicator_after : number_in (resent letter_c indicator_not_set) (folded_journal full) ≡ read_eh
  pub initial_before : number_in (resent letter_i indicator_not_set) full ≡ withdrawn_read
  pub initial_after : number_in (resent letter_i indicator_not_set) (folded_journal full) ≡ read_at
  pub later_before : number_in (read 1400 1) full ≡ withdrawn_read
  pub later_after : number_in (read 1400 1) (folded_journal full) ≡ withdrawn_read
  -- "An area is all zero (not enrolled)" or sound: a meter's entry, perhaps a carry, entries, "then zeros to the end"
  pub zeros_good : is_good (area_with []) ≡ true
  pub enrolled_good : is_good (area_with (meter_of 1)) ≡ true
  pub pseudo_good : is_good (area_with (meter_of 7)) ≡ true
  pub opened_good : is_good (area_with (meter_of 1 ++ read_of 73)) ≡ true
  pub folded_good : is_good (area_with (meter_of 1 ++ (carry_of ++ read_of 67))) ≡ true
  -- "Anything else non-zero is damaged."
  pub stray_byte : is_good (area_with (0 ∷ 1 ∷ [])) ≡ false
  pub other_kind : is_good (area_with (meter_of 2)) ≡ false
  pub no_dials : is_good (area_with (1 ∷ [])) ≡ false
  pub opened_wrongly : is_good (area_with (meter_of 1 ++ read_of 67)) ≡ false
  pub carry_alone : is_good (area_with (meter_of 1 ++ carry_of)) ≡ false
  pub byte_after_the_end : is_good (area_with (meter_of 1 ++ (0 ∷ 1 ∷ []))) ≡ false
