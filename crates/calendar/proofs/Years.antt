-- The table of year starts, and the division that finds a day's year.
use mathlib.Core.Path.{◌≡◌, refl}
use mathlib.Core.Bool.{Bool, true, false, cond}
use mathlib.Core.List.{List, [], ◌∷◌}
use Prim.Native.Nat.{ℕ, zero, suc, ◌+◌, ◌-◌, ◌*◌, ◌≤◌, ◌<◌}
use native.Mathlib.Nat.{zero-add}
use native.Mathlib.Omega.{arith}
use borrow.Author.Tests.{ltb-true, ltb-false}
use lib.Dec.{ltb}
use lib.ListN.{get_or}
use Rattle.calendar.specs.Year.{is_leap, year_length, year_start, first_year, years_held}
use Rattle.calendar.specs.Date.{last_day}
use Rattle.calendar.specs.Inner.Placed.{YearAt, start_of2101, even_days, year_by}
use Rattle.calendar.proofs.Spans.{gives, finds, given, Ends, found, placed, quotient_rises}

-- the table of `year_start`, whose proof fails where the two differ
unfoldable pub year_starts : List ℕ
year_starts = 1 ∷ 367 ∷ 732 ∷ 1097 ∷ 1462 ∷ 1828 ∷ 2193 ∷ 2558 ∷ 2923 ∷ 3289 ∷ 3654 ∷ 4019 ∷ 4384 ∷ 4750 ∷ 5115 ∷ 5480 ∷ 5845 ∷ 6211 ∷ 6576 ∷ 6941 ∷ 7306 ∷ 7672 ∷ 8037 ∷ 8402 ∷ 8767 ∷ 9133 ∷ 9498 ∷ 9863 ∷ 10228 ∷ 10594 ∷ 10959 ∷ 11324 ∷ 11689 ∷ 12055 ∷ 12420 ∷ 12785 ∷ 13150 ∷ 13516 ∷ 13881 ∷ 14246 ∷ 14611 ∷ 14977 ∷ 15342 ∷ 15707 ∷ 16072 ∷ 16438 ∷ 16803 ∷ 17168 ∷ 17533 ∷ 17899 ∷ 18264 ∷ 18629 ∷ 18994 ∷ 19360 ∷ 19725 ∷ 20090 ∷ 20455 ∷ 20821 ∷ 21186 ∷ 21551 ∷ 21916 ∷ 22282 ∷ 22647 ∷ 23012 ∷ 23377 ∷ 23743 ∷ 24108 ∷ 24473 ∷ 24838 ∷ 25204 ∷ 25569 ∷ 25934 ∷ 26299 ∷ 26665 ∷ 27030 ∷ 27395 ∷ 27760 ∷ 28126 ∷ 28491 ∷ 28856 ∷ 29221 ∷ 29587 ∷ 29952 ∷ 30317 ∷ 30682 ∷ 31048 ∷ 31413 ∷ 31778 ∷ 32143 ∷ 32509 ∷ 32874 ∷ 33239 ∷ 33604 ∷ 33970 ∷ 34335 ∷ 34700 ∷ 35065 ∷ 35431 ∷ 35796 ∷ 36161 ∷ 36526 ∷ 36891 ∷ 37256 ∷ 37621 ∷ 37986 ∷ 38352 ∷ 38717 ∷ 39082 ∷ 39447 ∷ 39813 ∷ 40178 ∷ 40543 ∷ 40908 ∷ 41274 ∷ 41639 ∷ 42004 ∷ 42369 ∷ 42735 ∷ 43100 ∷ 43465 ∷ 43830 ∷ 44196 ∷ 44561 ∷ 44926 ∷ 45291 ∷ 45657 ∷ 46022 ∷ 46387 ∷ 46752 ∷ 47118 ∷ 47483 ∷ 47848 ∷ 48213 ∷ 48579 ∷ 48944 ∷ 49309 ∷ 49674 ∷ 50040 ∷ 50405 ∷ 50770 ∷ 51135 ∷ 51501 ∷ 51866 ∷ 52231 ∷ 52596 ∷ 52962 ∷ 53327 ∷ 53692 ∷ 54057 ∷ 54423 ∷ 54788 ∷ 55153 ∷ 55518 ∷ 55884 ∷ 56249 ∷ 56614 ∷ 56979 ∷ 57345 ∷ 57710 ∷ 58075 ∷ 58440 ∷ 58806 ∷ 59171 ∷ 59536 ∷ 59901 ∷ 60267 ∷ 60632 ∷ 60997 ∷ 61362 ∷ 61728 ∷ 62093 ∷ 62458 ∷ 62823 ∷ 63189 ∷ 63554 ∷ 63919 ∷ 64284 ∷ 64650 ∷ 65015 ∷ 65380 ∷ []

abbrev pub length_since : ℕ → ℕ
length_since k = year_length (first_year + k)

pub year_more : (k : ℕ) → year_start (suc k) ≡ year_start k + length_since k
unfolding year_start
year_more k = refl

first : 1 ≡ year_start 0
unfolding year_start
first = refl

-- THE TABLE'S RULE, tested over the whole of it: it begins with 1, and each step is the length of that year
table_right : gives (λ k. get_or year_starts k 0) length_since 0 1 years_held ≡ true
unfolding gives year_starts year_length is_leap
table_right = refl

pub year_start_at : (k : ℕ) → k < years_held → get_or year_starts k 0 ≡ year_start k
year_start_at k h =
    rw zero-add at (given year_start length_since year_more (λ i. get_or year_starts i 0) years_held 0 1 first table_right k h)

-- ---- a year has 365 or 366 days
length_bounds : (b : Bool) → (365 ≤ cond b 366 365) × (cond b 366 365 ≤ 366)
length_bounds true = (omega arith, omega arith)
length_bounds false = (omega arith, omega arith)

pub year_bounds : (year : ℕ) → (365 ≤ year_length year) × (year_length year ≤ 366)
unfolding year_length
year_bounds year = length_bounds (is_leap year)

pub start_bounds : (k : ℕ) → (1 + 365 * k ≤ year_start k) × (year_start k ≤ 1 + 366 * k)
unfolding year_start
start_bounds zero = (omega arith, omega arith)
start_bounds (suc k) =
    let b = start_bounds k in
    let l = year_bounds (first_year + k) in
    (omega arith, omega arith)

-- ---- the division
division_right : finds year_by length_since 0 1 years_held ≡ true
unfolding finds even_days year_length is_leap
division_right = refl

even_rises : (a b : ℕ) → a ≤ b → even_days a ≤ even_days b
unfolding even_days
even_rises a b h = by_tests (ltb a start_of2101) refl (ltb b start_of2101) refl
  where
    by_tests : (x : Bool) → ltb a start_of2101 ≡ x → (y : Bool) → ltb b start_of2101 ≡ y → cond x (a - 1) a ≤ cond y (b - 1) b
    by_tests true e true f = omega arith
    by_tests true e false f = omega arith
    by_tests false e true f = omega (arith, ltb-false a start_of2101 e, ltb-true b start_of2101 f)
    by_tests false e false f = h

year_rises : (a b : ℕ) → a ≤ b → year_by a ≤ year_by b
year_rises a b h = quotient_rises 1461 _ _ (omega arith) (omega (arith, even_rises a b h))

found_at : (k : ℕ) → k < years_held → Ends year_start length_since year_more year_by k
found_at k h = rw zero-add at (found year_start length_since year_more year_by years_held 0 1 first division_right k h)

pub year_placed : (day : ℕ) → 1 ≤ day → day ≤ last_day → YearAt day (year_by day)
year_placed day some most =
    placed year_start length_since year_more year_by year_rises years_held found_at day (omega (arith, first)) (omega (arith, (start_bounds years_held).0))
