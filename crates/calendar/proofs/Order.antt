-- A day on is a later date of the calendar; so counting on gives a date at most once, and none that is not in the calendar.
use mathlib.Core.Path.{◌≡◌, refl, ap, ◌∙◌}
use mathlib.Core.Bool.{Bool, true, false, cond, ◌&&◌, and-eq-true_iff}
use Prim.Native.Nat.{ℕ, zero, suc, ◌+◌, ◌≤◌}
use native.Mathlib.Nat.{add-zero, add-suc}
use native.Mathlib.Omega.{arith}
use borrow.Author.Tests.{leb-true, le-leb, ltb-true}
use lib.Dec.{leb, ltb}
use Rattle.calendar.specs.declared.date.Date.{Date}
use Rattle.calendar.specs.Year.{first_year}
use Rattle.calendar.specs.Month.{month_length, months_in_year}
use Rattle.calendar.specs.Date.{is_in_calendar, date, next, after, first_date}
use Rattle.calendar.specs.Claims.{Earlier, by_year, by_month, by_day}
use Rattle.calendar.proofs.Counting.{month_some}

-- ---- earlier
pub earlier_trans : {a b c : Date} → Earlier a b → Earlier b c → Earlier a c
earlier_trans (by_year h) (by_year k) = by_year (omega arith)
earlier_trans (by_year h) (by_month e k) = by_year (omega arith)
earlier_trans (by_year h) (by_day e f k) = by_year (omega arith)
earlier_trans (by_month e h) (by_year k) = by_year (omega arith)
earlier_trans (by_month e h) (by_month f k) = by_month (e ∙ f) (omega arith)
earlier_trans (by_month e h) (by_day f g k) = by_month (e ∙ f) (omega arith)
earlier_trans (by_day e f h) (by_year k) = by_year (omega arith)
earlier_trans (by_day e f h) (by_month g k) = by_month (e ∙ g) (omega arith)
earlier_trans (by_day e f h) (by_day g i k) = by_day (e ∙ g) (f ∙ i) (omega arith)

pub earlier_not_same : {a b : Date} → Earlier a b → a ≡ b → ⊥
earlier_not_same (by_year h) e = let s = ap (λ (d : Date). d.year) e in omega arith
earlier_not_same (by_month f h) e = let s = ap (λ (d : Date). d.month) e in omega arith
earlier_not_same (by_day f g h) e = let s = ap (λ (d : Date). d.day) e in omega arith

pub next_later : (d : Date) → Earlier d (next d)
unfolding next
next_later d = by_tests (ltb d.day (month_length d.year d.month)) (ltb d.month months_in_year)
  where
    by_tests : (x y : Bool) → Earlier d (cond x (date d.year d.month (d.day + 1)) (cond y (date d.year (d.month + 1) 1) (date (d.year + 1) 1 1)))
    by_tests true y = by_day refl refl (omega arith)
    by_tests false true = by_month refl (omega arith)
    by_tests false false = by_year (omega arith)

pub after_rises : (d : Date) (n k : ℕ) → Earlier (after n d) (after (n + suc k) d)
unfolding after
after_rises d n zero = rw (add-suc, add-zero) (next_later (after n d))
after_rises d n (suc k) = rw add-suc (earlier_trans (after_rises d n k) (next_later (after (n + suc k) d)))

-- ---- in the calendar
pub record InCalendar (d : Date) : Type 0 where
  pub month_least : 1 ≤ d.month
  pub month_most : d.month ≤ months_in_year
  pub day_least : 1 ≤ d.day
  pub day_most : d.day ≤ month_length d.year d.month

pub calendar_true : (d : Date) → is_in_calendar d ≡ true → InCalendar d
unfolding is_in_calendar
calendar_true d h =
    let t = (and-eq-true_iff (leb 1 d.month && leb d.month months_in_year) (leb 1 d.day && leb d.day (month_length d.year d.month))).0 h in
    let m = (and-eq-true_iff (leb 1 d.month) (leb d.month months_in_year)).0 t.0 in
    let n = (and-eq-true_iff (leb 1 d.day) (leb d.day (month_length d.year d.month))).0 t.1 in
    record {
      month_least = leb-true _ _ m.0;
      month_most = leb-true _ _ m.1;
      day_least = leb-true _ _ n.0;
      day_most = leb-true _ _ n.1;
    }

pub true_calendar : {d : Date} → InCalendar d → is_in_calendar d ≡ true
unfolding is_in_calendar
true_calendar {d} h =
    rw (le-leb 1 d.month h.month_least, le-leb d.month months_in_year h.month_most, le-leb 1 d.day h.day_least, le-leb d.day (month_length d.year d.month) h.day_most)

next_in : (d : Date) → InCalendar d → InCalendar (next d)
unfolding next
next_in d h = by_tests (ltb d.day (month_length d.year d.month)) refl (ltb d.month months_in_year) refl
  where
    by_tests : (x : Bool) → ltb d.day (month_length d.year d.month) ≡ x → (y : Bool) → ltb d.month months_in_year ≡ y → InCalendar (cond x (date d.year d.month (d.day + 1)) (cond y (date d.year (d.month + 1) 1) (date (d.year + 1) 1 1)))
    by_tests true e y f =
        record {
          month_least = h.month_least;
          month_most = h.month_most;
          day_least = omega arith;
          day_most = omega (arith, ltb-true d.day (month_length d.year d.month) e);
        }
    by_tests false e true f =
        record {
          month_least = omega arith;
          month_most = omega (arith, ltb-true d.month months_in_year f);
          day_least = omega arith;
          day_most = month_some d.year (d.month + 1);
        }
    by_tests false e false f =
        record {
          month_least = omega arith;
          month_most = omega arith;
          day_least = omega arith;
          day_most = month_some (d.year + 1) 1;
        }

pub after_in : (n : ℕ) → InCalendar (after n first_date)
unfolding after
after_in zero =
    record {
      month_least = omega arith;
      month_most = omega arith;
      day_least = omega arith;
      day_most = month_some 2000 1;
    }
after_in (suc n) = next_in (after n first_date) (after_in n)

-- ---- never before 2000
earlier_year : {a b : Date} → Earlier a b → a.year ≤ b.year
earlier_year (by_year h) = omega arith
earlier_year (by_month e h) = omega arith
earlier_year (by_day e f h) = omega arith

pub after_year : (n : ℕ) → first_year ≤ (after n first_date).year
unfolding after
after_year zero = omega arith
after_year (suc n) = omega (arith, after_year n, earlier_year (next_later (after n first_date)))
