-- The day that a date has, and the date that a day has, by the starts of years and months.
use mathlib.Core.Path.{◌≡◌, refl, ap, sym, subst, ◌∙◌}
use mathlib.Core.Bool.{Bool, true, false}
use Prim.Native.Nat.{ℕ, suc, ◌+◌, ◌-◌, ◌≤◌, ◌<◌}
use native.Mathlib.Numerals.{add-one}
use native.Mathlib.Omega.{arith}
use borrow.Author.Tests.{ltb-true, ltb-false}
use lib.Dec.{ltb}
use Rattle.calendar.specs.declared.date.Date.{Date}
use Rattle.calendar.specs.Year.{is_leap, year_start, first_year, years_held}
use Rattle.calendar.specs.Month.{month_length, months_in_year}
use Rattle.calendar.specs.Date.{is_in_calendar, date, after, first_date, last_day, date_of, day_of}
use Rattle.calendar.specs.Inner.Placed.{days_before, YearAt, MonthAt, month_by}
use Rattle.calendar.proofs.Years.{year_more, start_bounds}
use Rattle.calendar.proofs.Months.{days_more, length_bounds, year_days, month_placed}
use Rattle.calendar.proofs.Counting.{month_more, reached}
use Rattle.calendar.proofs.Order.{earlier_not_same, InCalendar, calendar_true, true_calendar, after_in, after_year}
use Rattle.calendar.proofs.Search.{date_some, after_earlier, same_parts, Found, has, none, found_day}

-- ---- a date has one day
apart : (j k : ℕ) → j < k → k < last_day → date_of (suc j) ≡ date_of (suc k) → ⊥
apart j k h l e = earlier_not_same (after_earlier j k h) (sym (date_some j (omega arith)) ∙ e ∙ date_some k l)

same_day_lem : (j k : ℕ) → j < last_day → k < last_day → date_of (suc j) ≡ date_of (suc k) → j ≡ k
same_day_lem j k h l e = by_tests (ltb j k) refl (ltb k j) refl
  where
    by_tests : (x : Bool) → ltb j k ≡ x → (y : Bool) → ltb k j ≡ y → j ≡ k
    by_tests true p y q = absurd (apart j k (ltb-true j k p) l e)
    by_tests false p true q = absurd (apart k j (ltb-true k j q) h (sym e))
    by_tests false p false q = omega (arith, ltb-false j k p, ltb-false k j q)

-- the day of a date that a day has
pub day_some : (d : Date) (k : ℕ) → k < last_day → date_of (suc k) ≡ d → day_of d ≡ suc k
day_some d k h e = of_found (day_of d) (found_day d)
  where
    of_found : (day : ℕ) → Found last_day d day → day ≡ suc k
    of_found day (has j l f) = ap suc (same_day_lem j k l h (f ∙ sym e))
    of_found day (none n) = absurd (n k h e)

-- and of one that none has
pub day_none : (d : Date) → ((k : ℕ) → k < last_day → after k first_date ≡ d → ⊥) → day_of d ≡ 0
day_none d n = of_found (day_of d) (found_day d)
  where
    of_found : (day : ℕ) → Found last_day d day → day ≡ 0
    of_found day (has j l f) = absurd (n j l (sym (date_some j l) ∙ f))
    of_found day (none _) = refl

-- ---- by number: the start of the year, the days of the months before, and the days before it in its month
abbrev pub number_of : Date → ℕ
number_of d = year_start (d.year - first_year) + days_before (is_leap d.year) (d.month - 1) + (d.day - 1)

module _ (d : Date) (h : InCalendar d) (from : first_year ≤ d.year) where
  pub counted : (n : ℕ) → suc n ≡ number_of d → after n first_date ≡ d
  counted n e =
      let year : first_year + (d.year - first_year) ≡ d.year = omega arith in
      let month : suc (d.month - 1) ≡ d.month = omega (arith, h.month_least) in
      let day : d.day - 1 + 1 ≡ d.day = omega (arith, h.day_least) in
      let least : d.day - 1 < month_length d.year d.month = omega (arith, h.day_most, h.day_least) in
      reached (d.year - first_year) (d.month - 1) (d.day - 1) (omega (arith, h.month_most, h.month_least)) (rw (year, month) least) n (rw year e)
      ∙ same_parts year month day

  pub number_some : suc (number_of d - 1) ≡ number_of d
  number_some = omega (arith, (start_bounds (d.year - first_year)).0)

  pub day_number : number_of d ≤ last_day → day_of d ≡ number_of d
  day_number l =
      let below : number_of d - 1 < last_day = omega (arith, number_some) in
      day_some d (number_of d - 1) below (date_some (number_of d - 1) below ∙ counted (number_of d - 1) number_some) ∙ number_some

  pub day_past : last_day < number_of d → day_of d ≡ 0
  day_past l =
      day_none d
      (λ k h e. earlier_not_same (after_earlier k (number_of d - 1) (omega arith)) (e ∙ sym (counted (number_of d - 1) number_some)))

-- ---- dates that no day has
pub day_outside : (d : Date) → is_in_calendar d ≡ false → day_of d ≡ 0
day_outside d f =
    day_none d
    (λ k h e. let t = true_calendar (subst InCalendar e (after_in k)) in let z : ◌≡◌ {A = ℕ} 0 1 = cc in omega arith)

pub day_before : (d : Date) → d.year < first_year → day_of d ≡ 0
day_before d l = day_none d (λ k h e. omega (arith, after_year k, ap (λ (x : Date). x.year) e))

-- a year past the table begins after the last day
pub day_after : (d : Date) → is_in_calendar d ≡ true → first_year + years_held ≤ d.year → day_of d ≡ 0
day_after d h l =
    day_past d (calendar_true d h) (omega arith) (omega (arith, (start_bounds (d.year - first_year)).0))

-- ---- the date of a day, by its year and month
pub date_day : (day : ℕ) → 1 ≤ day → day ≤ last_day → date_of day ≡ after (day - 1) first_date
date_day day h l =
    let e : day ≡ suc (day - 1) = omega arith in
    ap date_of e ∙ date_some (day - 1) (omega arith)

module _ (day k : ℕ) (at : YearAt day k) (most : day ≤ last_day) where
  abbrev year : ℕ
  year = first_year + k

  abbrev leap : Bool
  leap = is_leap year

  abbrev of_year : ℕ
  of_year = day - year_start k

  pub of_year_below : of_year < days_before leap months_in_year
  of_year_below = rw year_days (omega (arith, at.from, at.to, year_more k, (start_bounds k).0))

  pub of_month_below : (m : ℕ) → MonthAt leap of_year m → of_year - days_before leap m < 31
  of_month_below m h = omega (arith, h.from, h.to, days_more leap m, (length_bounds leap (suc m)).1)

  pub date_at : (m : ℕ) → MonthAt leap of_year m → date_of day ≡ date year (m + 1) (of_year - days_before leap m + 1)
  date_at m h =
      let of_month : ℕ = of_year - days_before leap m in
      let inside : of_month < month_length year (suc m) = omega (arith, h.from, h.to, month_more year m) in
      let sum : suc (day - 1) ≡ year_start k + days_before leap m + of_month = omega (arith, at.from, h.from, (start_bounds k).0) in
      date_day day (omega (arith, at.from, (start_bounds k).0)) most
      ∙ reached k m of_month h.held inside (day - 1) sum
      ∙ same_parts refl (sym (add-one m)) refl

  pub year_at_date : (date_of day).year ≡ year
  year_at_date =
      ap (λ (d : Date). d.year) (date_at (month_by leap of_year) (month_placed leap of_year of_year_below))
