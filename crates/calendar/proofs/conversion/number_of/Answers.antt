-- A date of the calendar from 2000 on has the number that is added up, unless that is past the last day; no other date has a day.
use mathlib.Core.Path.{◌≡◌, sym, ◌∙◌}
use Prim.Native.Nat.{ℕ, ◌+◌, ◌-◌, ◌≤◌}
use Rattle.std.specs.Prelude.{Result, Ok, Err}
use Rattle.std.specs.Option.{unwrap_or}
use Rattle.std.specs.Result.{OkIff, result_ok}
use native.Mathlib.Omega.{arith}
use Rattle.calendar.specs.Year.{first_year}
use Rattle.calendar.proofs.Order.{calendar_true}
use Rattle.calendar.proofs.Dates.{number_of, day_number, day_past, day_outside, day_before, day_after}
use Rattle.calendar.proofs.conversion.number_of.Goals as goal

ok_or_none : {E : Type 0} (r : Result ℕ E) (P : Type 0) (v n : ℕ) → OkIff r P v → (P → n ≡ v) → ((P → ⊥) → n ≡ 0) → unwrap_or (result_ok r) 0 ≡ n
ok_or_none (Ok x) P v n h some none = h.1 ∙ sym (some h.0)
ok_or_none (Err e) P v n h some none = sym (none h)

pub returns-then-not-is_in_calendar : goal.returns-then-not-is_in_calendar
returns-then-not-is_in_calendar c = sym (day_outside c.args.date (sym c.is_in_calendar.ensures ∙ c.if-not-is_in_calendar.true))

pub returns-in_err-years : goal.returns-in_err-years
returns-in_err-years c = rw c.from_residual.ensures (sym (day_before c.args.date (omega (arith, c.in_err-years.ensures))))

pub returns-then-years-ge-YEARS : goal.returns-then-years-ge-YEARS
returns-then-years-ge-YEARS c = sym (day_after c.args.date (sym c.is_in_calendar.ensures ∙ c.if-not-is_in_calendar.false) (omega (arith, c.in_ok-years.ensures)))

pub overflow_sub-date : goal.overflow_sub-date
overflow_sub-date c = (calendar_true c.args.date (sym c.is_in_calendar.ensures ∙ c.if-not-is_in_calendar.false)).month_least

pub days_before-before-requires : goal.days_before-before-requires
days_before-before-requires c =
    let i = calendar_true c.args.date (sym c.is_in_calendar.ensures ∙ c.if-not-is_in_calendar.false) in
    omega (arith, i.month_least, i.month_most)

pub overflow_sub-date-2 : goal.overflow_sub-date-2
overflow_sub-date-2 c = (calendar_true c.args.date (sym c.is_in_calendar.ensures ∙ c.if-not-is_in_calendar.false)).day_least

pub returns : goal.returns
returns c =
    let d = c.args.date in
    let i = calendar_true d (sym c.is_in_calendar.ensures ∙ c.if-not-is_in_calendar.false) in
    let recent : first_year ≤ d.year = omega (arith, c.in_ok-years.ensures) in
    let years : c.in_ok-years.years ≡ d.year - first_year = omega (arith, c.in_ok-years.ensures) in
    let start = rw years at c.year_start-start.ensures in
    let days = rw c.is_leap.ensures at c.days_before-before.ensures in
    let number : c.year_start-start.result + c.days_before-before.result + (d.day - 1) ≡ number_of d =
    omega (arith, start, days)
    in
    rw c.ok.ensures.value
    (ok_or_none _ _ _ _ c.try_from.ensures
    (λ h. day_number d i recent (omega arith) ∙ sym number)
    (λ h. day_past d i recent (omega arith)))
