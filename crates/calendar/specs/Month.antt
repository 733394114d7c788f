-- 02, 1: the months of the calendar.
use Rattle.std.specs.Prelude.{Bool, cond, ◌||◌, ℕ, eqb}
use Rattle.calendar.specs.Year.{is_leap}

abbrev pub months_in_year : ℕ
months_in_year = 12

-- April, June, September and November
unfoldable pub has_thirty : ℕ → Bool
has_thirty month = eqb month 4 || (eqb month 6 || (eqb month 9 || eqb month 11))

-- the days of a month, in a leap year or in another: 29 or 28 in February, 30 in the four, 31 in the others
unfoldable pub length_in : Bool → ℕ → ℕ
length_in leap month = cond (eqb month 2) (cond leap 29 28) (cond (has_thirty month) 30 31)

unfoldable pub month_length : ℕ → ℕ → ℕ
month_length year month = length_in (is_leap year) month
