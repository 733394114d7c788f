-- Counting on from 1 January 2000 goes through every year, month by month and day by day, so that the count to a date is the start of its year, the
-- days of the months before it and the days before it in its month.
use mathlib.Core.Path.{◌≡◌, refl, ap, sym, ◌∙◌}
use Prim.Native.Nat.{ℕ, zero, suc, ◌+◌, ◌-◌, ◌≤◌, ◌<◌}
use native.Mathlib.Nat.{add-zero, add-suc}
use native.Mathlib.Numerals.{add-one}
use native.Mathlib.Omega.{arith}
use borrow.Author.Tests.{lt-ltb, le-ltb}
use Rattle.calendar.specs.declared.date.Date.{Date}
use Rattle.calendar.specs.Year.{is_leap, year_length, year_start, first_year}
use Rattle.calendar.specs.Month.{month_length, months_in_year}
use Rattle.calendar.specs.Date.{date, next, after, first_date}
use Rattle.calendar.specs.Inner.Placed.{days_before}
use Rattle.calendar.proofs.Years.{year_more, start_bounds}
use Rattle.calendar.proofs.Months.{length_bounds, year_days}

-- ---- one day on
module _ (year month day : ℕ) where
  pub next_day : day < month_length year month → next (date year month day) ≡ date year month (day + 1)
  unfolding next
  next_day h = rw (lt-ltb day (month_length year month) h)

  pub next_month : month_length year month ≤ day → month < months_in_year → next (date year month day) ≡ date year (month + 1) 1
  unfolding next
  next_month h l = rw (le-ltb day (month_length year month) h, lt-ltb month months_in_year l)

  pub next_year : month_length year month ≤ day → months_in_year ≤ month → next (date year month day) ≡ date (year + 1) 1 1
  unfolding next
  next_year h l = rw (le-ltb day (month_length year month) h, le-ltb month months_in_year l)

-- ---- many days on
pub after_sum : (n k : ℕ) (d : Date) → after (n + k) d ≡ after k (after n d)
unfolding after
after_sum n zero d = rw add-zero
after_sum n (suc k) d = rw add-suc (ap next (after_sum n k d))

pub month_some : (year month : ℕ) → 1 ≤ month_length year month
unfolding month_length
month_some year month = omega (arith, (length_bounds (is_leap year) month).0)

module _ (year month : ℕ) where
  in_month : (k : ℕ) → k < month_length year month → after k (date year month 1) ≡ date year month (k + 1)
  unfolding after
  in_month zero h = refl
  in_month (suc k) h =
      ap next (in_month k (omega arith))
      ∙ next_day year month (k + 1) (omega arith)
      ∙ ap (date year month) (omega arith)

  past_days : (k : ℕ) → month_length year month ≡ suc k → after (suc k) (date year month 1) ≡ next (date year month (suc k))
  unfolding after
  past_days k e = ap next (in_month k (omega arith) ∙ ap (date year month) (add-one k))

  past_month : after (month_length year month) (date year month 1) ≡ next (date year month (month_length year month))
  past_month =
      let e : month_length year month ≡ suc (month_length year month - 1) = omega (arith, month_some year month) in
      rw e (past_days (month_length year month - 1) e)

module _ (year : ℕ) where
  abbrev pub before : ℕ → ℕ
  before = days_before (is_leap year)

  pub month_more : (m : ℕ) → before (suc m) ≡ before m + month_length year (suc m)
  unfolding days_before month_length
  month_more m = refl

  -- from the first of a month on by its length
  over_month : (m : ℕ) → after (before m) (date year 1 1) ≡ date year (suc m) 1 → after (before (suc m)) (date year 1 1) ≡ next (date year (suc m) (month_length year (suc m)))
  over_month m h =
      ap (λ (n : ℕ). after n (date year 1 1)) (month_more m)
      ∙ after_sum (before m) (month_length year (suc m)) (date year 1 1)
      ∙ ap (after (month_length year (suc m))) h
      ∙ past_month year (suc m)

  to_month : (m : ℕ) → m < months_in_year → after (before m) (date year 1 1) ≡ date year (suc m) 1
  unfolding after days_before
  to_month zero h = refl
  to_month (suc m) h =
      over_month m (to_month m (omega arith))
      ∙ next_month year (suc m) (month_length year (suc m)) (omega arith) h
      ∙ ap (λ (n : ℕ). date year n 1) (add-one (suc m))

  past_year : after (year_length year) (date year 1 1) ≡ date (suc year) 1 1
  past_year =
      ap (λ (n : ℕ). after n (date year 1 1)) (sym (year_days year))
      ∙ over_month 11 (to_month 11 (omega arith))
      ∙ next_year year 12 (month_length year 12) (omega arith) (omega arith)
      ∙ ap (λ (n : ℕ). date n 1 1) (add-one year)

-- ---- from 1 January 2000
pub to_year : (k n : ℕ) → year_start k ≡ suc n → after n first_date ≡ date (first_year + k) 1 1
unfolding after year_start
to_year zero n e = ap (λ (i : ℕ). after i first_date) (let z : n ≡ 0 = omega arith in z)
to_year (suc k) n e =
    let before : ℕ = year_start k - 1 in
    let some : year_start k ≡ suc before = omega (arith, (start_bounds k).0) in
    let sum : n ≡ before + year_length (first_year + k) = omega (arith, year_more k) in
    ap (λ (i : ℕ). after i first_date) sum
    ∙ after_sum before (year_length (first_year + k)) first_date
    ∙ ap (after (year_length (first_year + k))) (to_year k before some)
    ∙ past_year (first_year + k)
    ∙ ap (λ (i : ℕ). date i 1 1) (sym (add-suc first_year k))

-- the count to the day j, counted from 0, of the month m, counted from 0, of the year k after 2000
module _ (k m j : ℕ) (h : m < months_in_year) (l : j < month_length (first_year + k) (suc m)) where
  pub reached : (n : ℕ) → suc n ≡ year_start k + days_before (is_leap (first_year + k)) m + j → after n first_date ≡ date (first_year + k) (suc m) (j + 1)
  reached n e =
      let year : ℕ = first_year + k in
      let days : ℕ = days_before (is_leap year) m in
      let before : ℕ = year_start k - 1 in
      let some : year_start k ≡ suc before = omega (arith, (start_bounds k).0) in
      let sum : n ≡ before + days + j = omega arith in
      ap (λ (i : ℕ). after i first_date) sum
      ∙ after_sum (before + days) j first_date
      ∙ ap (after j) (after_sum before days first_date ∙ ap (after days) (to_year k before some) ∙ to_month year m h)
      ∙ in_month year (suc m) j l
