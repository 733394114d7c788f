-- 01, Volume, with 02, 1. R1 and D1 are the submitted value and day, R0 and R-1 the last two standing reads, D0 and D-1 their days.
use Rattle.std.specs.Prelude.{Bool, true, not, cond, ◌&&◌, [], ◌∷◌, ℕ, eqb, ℤ, pos, ◌-ℤ◌, ◌*ℤ◌, Option, Some, None}
use Rattle.std.specs.Int.Signed.{lt_z}
use Rattle.calendar.specs.Year.{year_length}
use Rattle.calendar.specs.Date.{date_of}
use Rattle.arithmetic.specs.Advance.{advance_of}
use Rattle.terms.specs.declared.entry.Entry.{Entry}
use Rattle.terms.specs.declared.entry.Recent.{Recent}
use Rattle.terms.specs.declared.submission.Submission.{Submission}
use Rattle.terms.specs.Letter.{is_unchecked}
use Rattle.terms.specs.Number.{accepted, low, high, over_capacity}
use Rattle.terms.specs.Rule.{rule, first_broken}
use Rattle.rules.specs.declared.volume.Compared.{Compared}
use Rattle.rules.specs.declared.volume.Compared.TheVariants.{Low, High, Neither}
use Rattle.rules.specs.Settings.{whole_percent, low_percent, high_percent}
use Rattle.rules.specs.Detection.{scaled_of}

-- "The advance a is a signed whole number, R1 − R0 + flag × 10^n, and 0 where no read stands"
unfoldable pub advance_over : ℕ → ℕ → ℕ → Option Entry → ℤ
advance_over n value flag (Some r0) = advance_of n value flag r0.value
advance_over n value flag None = pos 0

-- "I, O and Y have no volume check."
unfoldable pub has_volume_check : Submission → Bool
has_volume_check s = not (is_unchecked s.letter)

-- "not for a re-read"
unfoldable pub has_threshold : Submission → Bool
has_threshold s = has_volume_check s && not (eqb s.reread 1)

-- p: "the last standing read's advance over the one before, its flag counted"
abbrev pub last_advance : ℕ → Entry → Entry → ℤ
last_advance n r0 r_1 = advance_of n r0.value r0.flag r_1.value

-- "100 × a × e < 20 × p × d is 19, 100 × a × e > 200 × p × d is 20", with d = D1 − D0 and e the days of p, D0 − D-1
unfoldable pub compared_with : ℤ → ℤ → ℕ → ℕ → ℕ → Compared
compared_with a p d1 d0 d_1 =
    cond (lt_z (scaled_of whole_percent a d0 d_1) (scaled_of low_percent p d1 d0))
    Low
    (cond (lt_z (scaled_of high_percent p d1 d0) (scaled_of whole_percent a d0 d_1)) High Neither)

-- "Threshold, not for a re-read": "If that exists and p > 0"
unfoldable pub compared : ℕ → ℤ → Submission → Option Entry → Option Entry → Compared
compared n a s (Some r0) (Some r_1) =
    cond (has_threshold s && lt_z (pos 0) (last_advance n r0 r_1))
    (compared_with a (last_advance n r0 r_1) s.day r0.day r_1.day)
    Neither
compared n a s (Some r0) None = Neither
compared n a s None r = Neither

-- the paper's number for each case
unfoldable pub compared_number : Compared → ℕ
compared_number Low = low
compared_number High = high
compared_number Neither = accepted

-- 02, 1: "366 where the read's day falls in a calendar leap year", and else 365: the length of the year of the day's date
unfoldable pub days_in_year : ℕ → ℕ
days_in_year day = year_length (date_of day).year

-- "Capacity: passes if a × 365 < capacity × d, else 21", with the days of the read's year in the place of 365. Where no read stands there is no d,
-- and nothing to pass.
unfoldable pub is_within_capacity : ℕ → ℤ → Submission → Option Entry → Bool
is_within_capacity capacity a s (Some r0) =
    lt_z (a *ℤ pos (days_in_year s.day)) (pos capacity *ℤ (pos s.day -ℤ pos r0.day))
is_within_capacity capacity a s None = true

-- a for a read that is taken with this flag, and then 19, 20 and 21
abbrev pub taken_advance : ℕ → Submission → ℕ → Recent → ℤ
taken_advance n s flag recent = advance_over n s.value flag recent.last

abbrev pub compared_in : ℕ → Submission → ℕ → Recent → Compared
compared_in n s flag recent = compared n (taken_advance n s flag recent) s recent.last recent.second

unfoldable pub is_low_volume : ℕ → Submission → ℕ → Recent → Bool
is_low_volume n s flag recent = eqb (compared_number (compared_in n s flag recent)) low

unfoldable pub is_high_volume : ℕ → Submission → ℕ → Recent → Bool
is_high_volume n s flag recent = eqb (compared_number (compared_in n s flag recent)) high

unfoldable pub is_over_capacity : ℕ → ℕ → Submission → ℕ → Recent → Bool
is_over_capacity n capacity s flag recent =
    has_volume_check s && not (is_within_capacity capacity (taken_advance n s flag recent) s recent.last)

unfoldable pub volume_number : ℕ → ℕ → Submission → ℕ → Recent → ℕ
volume_number n capacity s flag recent =
    first_broken
    (rule low (is_low_volume n s flag recent)
    ∷ rule high (is_high_volume n s flag recent)
    ∷ rule over_capacity (is_over_capacity n capacity s flag recent)
    ∷ [])
