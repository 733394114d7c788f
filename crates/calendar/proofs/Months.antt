-- The starts of months and the month of a day, by division; and that the months make up the year.
use mathlib.Core.Path.{◌≡◌, refl}
use mathlib.Core.Bool.{Bool, true, false, cond}
use Prim.Native.Nat.{ℕ, suc, ◌+◌, ◌≤◌, ◌<◌}
use native.Mathlib.Nat.{zero-add}
use native.Mathlib.Omega.{arith}
use borrow.Author.Tests.{ltb-true, ltb-false}
use lib.Dec.{eqb, ltb}
use Rattle.calendar.specs.Year.{is_leap, year_length}
use Rattle.calendar.specs.Month.{has_thirty, length_in, months_in_year}
use Rattle.calendar.specs.Inner.Placed.{days_before, MonthAt, lacking_in, even_day, start_by, month_by}
use Rattle.calendar.proofs.Spans.{gives, finds, given, Ends, found, placed, quotient_rises}

module _ (leap : Bool) where
  abbrev pub length_of : ℕ → ℕ
  length_of m = length_in leap (suc m)

  pub days_more : (m : ℕ) → days_before leap (suc m) ≡ days_before leap m + length_of m
  unfolding days_before
  days_more m = refl

  first : 0 ≡ days_before leap 0
  unfolding days_before
  first = refl

-- ---- the divisions are right for each of the twelve months
starts_right : (leap : Bool) → gives (start_by leap) (length_of leap) 0 0 months_in_year ≡ true
unfolding gives lacking_in length_in has_thirty
starts_right true = refl
starts_right false = refl

months_right : (leap : Bool) → finds (month_by leap) (length_of leap) 0 0 months_in_year ≡ true
unfolding finds even_day lacking_in length_in has_thirty
months_right true = refl
months_right false = refl

-- ---- bounds
pub lacking_bounds : (leap : Bool) → (1 ≤ lacking_in leap) × (lacking_in leap ≤ 2)
unfolding lacking_in
lacking_bounds true = (omega arith, omega arith)
lacking_bounds false = (omega arith, omega arith)

pub even_most : (leap : Bool) (day : ℕ) → even_day leap day ≤ day + 2
unfolding even_day
even_most leap day = by_test (ltb (day + lacking_in leap) 61)
  where
    by_test : (b : Bool) → cond b day (day + lacking_in leap) ≤ day + 2
    by_test true = omega arith
    by_test false = omega (arith, (lacking_bounds leap).1)

pub year_most : (leap : Bool) → days_before leap months_in_year ≤ 366
unfolding days_before length_in has_thirty
year_most true = omega arith
year_most false = omega arith

module _ (leap : Bool) where
  pub days_before_at : (m : ℕ) → m < months_in_year → start_by leap m ≡ days_before leap m
  days_before_at m h =
      rw zero-add at (given (days_before leap) (length_of leap) (days_more leap) (start_by leap) months_in_year 0 0 (first leap) (starts_right leap) m h)

  even_rises : (a b : ℕ) → a ≤ b → even_day leap a ≤ even_day leap b
  unfolding even_day
  even_rises a b h = by_tests (ltb (a + lacking_in leap) 61) refl (ltb (b + lacking_in leap) 61) refl
    where
      by_tests : (x : Bool) → ltb (a + lacking_in leap) 61 ≡ x → (y : Bool) → ltb (b + lacking_in leap) 61 ≡ y → cond x a (a + lacking_in leap) ≤ cond y b (b + lacking_in leap)
      by_tests true e true f = h
      by_tests true e false f = omega arith
      by_tests false e true f = omega (arith, ltb-false (a + lacking_in leap) 61 e, ltb-true (b + lacking_in leap) 61 f)
      by_tests false e false f = omega arith

  month_rises : (a b : ℕ) → a ≤ b → month_by leap a ≤ month_by leap b
  month_rises a b h = quotient_rises 367 _ _ (omega arith) (omega (arith, even_rises a b h))

  ends_at : (m : ℕ) → m < months_in_year → Ends (days_before leap) (length_of leap) (days_more leap) (month_by leap) m
  ends_at m h =
      rw zero-add at (found (days_before leap) (length_of leap) (days_more leap) (month_by leap) months_in_year 0 0 (first leap) (months_right leap) m h)

  pub month_placed : (day : ℕ) → day < days_before leap months_in_year → MonthAt leap day (month_by leap day)
  month_placed day h =
      placed (days_before leap) (length_of leap) (days_more leap) (month_by leap) month_rises months_in_year ends_at day (omega (arith, first leap)) h

-- ---- the twelve months are the year
year_days_in : (leap : Bool) → days_before leap months_in_year ≡ cond leap 366 365
unfolding days_before length_in has_thirty
year_days_in true = refl
year_days_in false = refl

pub year_days : (year : ℕ) → days_before (is_leap year) months_in_year ≡ year_length year
unfolding year_length
year_days year = year_days_in (is_leap year)

-- ---- a month has from 28 to 31 days
february : (leap : Bool) → (28 ≤ cond leap 29 28) × (cond leap 29 28 ≤ 31)
february true = (omega arith, omega arith)
february false = (omega arith, omega arith)

other : (b : Bool) → (28 ≤ cond b 30 31) × (cond b 30 31 ≤ 31)
other true = (omega arith, omega arith)
other false = (omega arith, omega arith)

pub length_bounds : (leap : Bool) (month : ℕ) → (28 ≤ length_in leap month) × (length_in leap month ≤ 31)
unfolding length_in
length_bounds leap month = by_test (eqb month 2)
  where
    by_test : (b : Bool) → (28 ≤ cond b (cond leap 29 28) (cond (has_thirty month) 30 31)) × (cond b (cond leap 29 28) (cond (has_thirty month) 30 31) ≤ 31)
    by_test true = february leap
    by_test false = other (has_thirty month)
