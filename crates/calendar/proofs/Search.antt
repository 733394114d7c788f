-- Days and dates, back and forth. A date has at most one day, since later days have later dates; so the search for it finds just that.
use mathlib.Core.Path.{◌≡◌, refl, subst}
use mathlib.Core.Bool.{Bool, true, false, cond, ◌&&◌, and-eq-true_iff}
use Prim.Native.Nat.{ℕ, zero, suc, ◌+◌, ◌-◌, ◌≤◌, ◌<◌}
use native.Mathlib.Omega.{arith}
use borrow.Author.Tests.{eqb-true, eq-eqb, lt-ltb, le-ltb}
use lib.Arith.{lt_of_le-ne}
use lib.Dec.{eqb}
use Rattle.calendar.specs.declared.date.Date.{Date}
use Rattle.calendar.specs.Date.{date, no_date, after, first_date, last_day, date_of, is_same, day_up_to, day_of}
use Rattle.calendar.specs.Claims.{Earlier}
use Rattle.calendar.proofs.Order.{after_rises}

-- ---- the date of a day
pub date_some : (n : ℕ) → n < last_day → date_of (suc n) ≡ after n first_date
unfolding date_of
date_some n h = rw (lt-ltb n last_day h)

pub date_past : (n : ℕ) → last_day ≤ n → date_of (suc n) ≡ no_date
unfolding date_of
date_past n h = rw (le-ltb n last_day h)

pub after_earlier : (n k : ℕ) → n < k → Earlier (after n first_date) (after k first_date)
after_earlier n k h =
    let e : n + suc (k - suc n) ≡ k = omega arith in
    subst (λ (i : ℕ). Earlier (after n first_date) (after i first_date)) e (after_rises first_date n (k - suc n))

-- ---- the search for a date
pub same_parts : {a b c x y z : ℕ} → a ≡ x → b ≡ y → c ≡ z → date a b c ≡ date x y z
same_parts e f g = cc

same_is : (a b : Date) → is_same a b ≡ true → a ≡ b
unfolding is_same
same_is a b h =
    let t = (and-eq-true_iff (eqb a.year b.year) (eqb a.month b.month && eqb a.day b.day)).0 h in
    let u = (and-eq-true_iff (eqb a.month b.month) (eqb a.day b.day)).0 t.1 in
    same_parts (eqb-true a.year b.year t.0) (eqb-true a.month b.month u.0) (eqb-true a.day b.day u.1)

is_same_lem : (d : Date) → is_same d d ≡ true
unfolding is_same
is_same_lem d = rw (eq-eqb d.year d.year refl, eq-eqb d.month d.month refl, eq-eqb d.day d.day refl)

-- what is found is a day up to n that has the date; or nothing is found, and none has it
pub data Found (n : ℕ) (d : Date) : ℕ → Type 0 where
  has : (k : ℕ) → k < n → date_of (suc k) ≡ d → Found n d (suc k)
  none : ((k : ℕ) → k < n → date_of (suc k) ≡ d → ⊥) → Found n d 0

module _ {n : ℕ} {d : Date} where
  found_here : is_same (date_of (suc n)) d ≡ true → Found (suc n) d (suc n)
  found_here e = has n (omega arith) (same_is (date_of (suc n)) d e)

  not_here : is_same (date_of (suc n)) d ≡ false → (k : ℕ) → k ≡ n → date_of (suc k) ≡ d → ⊥
  not_here f k e g = let z : ◌≡◌ {A = ℕ} 0 1 = cc (is_same_lem d) in omega arith

  found_before : {day : ℕ} → is_same (date_of (suc n)) d ≡ false → Found n d day → Found (suc n) d day
  found_before f (has k h e) = has k (omega arith) e
  found_before f (none h) = none (λ k l e. h k (lt_of_le-ne (omega arith) (λ s. not_here f k s e)) e)

found : (n : ℕ) (d : Date) → Found n d (day_up_to n d)
unfolding day_up_to
found zero d = none (λ k h e. omega arith)
found (suc n) d = by_test (is_same (date_of (suc n)) d) refl (found n d)
  where
    by_test : (b : Bool) → is_same (date_of (suc n)) d ≡ b → Found n d (day_up_to n d) → Found (suc n) d (cond b (suc n) (day_up_to n d))
    by_test true e f = found_here e
    by_test false e f = found_before e f

pub found_day : (d : Date) → Found last_day d (day_of d)
unfolding day_of
found_day d = found last_day d
