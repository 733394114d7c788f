-- At a meter whose area is all zero nothing is accepted but an enrolment, so that without one the area stays all zero and the ledger empty.
use mathlib.Core.Path.{◌≡◌, refl, sym, ap, ◌∙◌}
use mathlib.Core.Bool.{Bool, true, false, ◌&&◌, ◌||◌}
use mathlib.Core.List.{List, [], ◌∷◌}
use Prim.Native.Nat.{ℕ, ◌<◌}
use native.Mathlib.Omega.{arith}
use borrow.Author.Tests.{eqb-true, eqb-false}
use lib.Dec.{eqb}
use lib.IntN.{pos}
use lib.ListN.{length}
use Rattle.terms.specs.Number.{accepted, no_meter}
use Rattle.register.specs.Area.{area_bytes, areas_in, area_of, all_zero}
use Rattle.register.proofs.Areas.{area_length}
use Rattle.journal.specs.Numbers.{area_rules}
use Rattle.terms.specs.declared.submission.Submission.{Submission}
use Rattle.calls.specs.declared.call.Call.{Call}
use Rattle.calls.specs.declared.call.Call.TheVariants.{Enrol, Submit, Withdraw, Report as ReportCall, Fold, Trial}
use Rattle.calls.specs.Checks.{report_checks}
use Rattle.calls.specs.Calls.{report_in, act, place_of, step}
use Rattle.calls.specs.Play.{Exchange, exchange, exchanges, number_of, may_change, names}
use Rattle.calls.specs.Ledger.{Ledger, empty_ledger, is_accepted, ledger_after, ledger_of, has_accepted, is_enrolment, has_enrolment}
use Rattle.calls.proofs.Bools.{together, or_false, by_test}
use Rattle.journal.proofs.Bools.{neither}
use Rattle.calls.proofs.Frame.{Local, Whole, Near, room, own_reply, own_area_after, step_whole, named_place, unnamed_area}
use Rattle.calls.proofs.Effects.{Effects}

-- ---- a call on an area that is all zero
report_number : (area : List ℕ) → all_zero area ≡ true → number_of (report_in area).reply ≡ no_meter
unfolding report_in report_checks area_rules number_of
report_number area zero = rw zero

module _ (effects : Effects) (area : List ℕ) (size : length area ≡ area_bytes) (zero : all_zero area ≡ true) where
  never_read {ℓ} : {X : Type ℓ} (place : ℕ) (s : Submission) → number_of (act (Submit place s) area).reply ≡ accepted → X
  never_read place s h = absurd (effects.apart area zero (effects.submit place s area size h).was_sound)

  never {ℓ} : {X : Type ℓ} (call : Call) → is_enrolment call ≡ false → number_of (act call area).reply ≡ accepted → X
  unfolding act is_enrolment
  never (Enrol place profile dials capacity) other h = absurd (let z : ◌≡◌ {A = ℕ} 0 1 = cc in let f : ⊥ = omega arith in f)
  never (Submit place s) other h = never_read place s h
  never (Withdraw place day value) other h = absurd (effects.apart area zero (effects.withdraw place day value area size h).was_sound)
  never (Fold place) other h = absurd (effects.apart area zero (effects.fold place area size h).was_sound)
  never (Trial place s) other h = never_read place s (rw (effects.foretold place s area) at h)
  never (ReportCall place) other h = absurd (let z : no_meter ≡ accepted = sym (report_number area zero) ∙ h in let f : ⊥ = omega arith in f)

  -- what is not accepted leaves it
  stays : (call : Call) → (number_of (act call area).reply ≡ accepted → ⊥) → (act call area).area ≡ area
  stays (Enrol place profile dials capacity) h = effects.enrol_refused_lem place profile dials capacity area h
  stays (Submit place s) h =
      by_test (may_change (number_of (act (Submit place s) area).reply))
      (λ t. absurd (effects.apart area zero (effects.hold place s area size h t).was_sound))
      (λ t. effects.submit_refused place s area t)
  stays (Withdraw place day value) h = effects.withdraw_refused_lem place day value area h
  stays (ReportCall place) h = effects.report place area
  stays (Fold place) h = effects.fold_refused place area h
  stays (Trial place s) h = effects.trial place s area

-- ---- a run
not_both : (x y z : Bool) → x && y || z ≡ false → (x ≡ true → y ≡ false) × (z ≡ false)
not_both true y z h = let n = neither y z h in (λ t. n.0, n.1)
not_both false y z h = (λ t. absurd (let q : ◌≡◌ {A = ℕ} 0 1 = cc in let f : ⊥ = omega arith in f), h)

module _ (local : Local) (effects : Effects) (meter : ℕ) (near : Near meter) where
  -- one call that is no accepted enrolment: it is not accepted at the meter, and the meter's area stays all zero
  module _ (call : Call) (register : List ℕ) (whole : Whole register) (zero : all_zero (area_of meter register) ≡ true) where
    abbrev x : Exchange
    x = exchange call (step call register).reply

    abbrev area : List ℕ
    area = area_of meter register

    abbrev Left : Type 0
    Left = (is_accepted meter x ≡ false) × (all_zero (area_of meter (step call register).register) ≡ true)

    own : names meter call ≡ true → (is_accepted meter x ≡ true → is_enrolment call ≡ false) → Left
    unfolding is_accepted
    own named other =
        let at = named_place meter call named in
        let here : place_of call < areas_in register = rw at (near register whole) in
        let size = area_length meter register (room meter register (near register whole) whole) in
        let bytes : area_of meter (step call register).register ≡ (act call area).area = cc (own_area_after local register whole call here) in
        let reply : (step call register).reply ≡ (act call area).reply = cc (own_reply local register whole call here) in
        let same : number_of (step call register).reply ≡ number_of (act call area).reply = ap number_of reply in
        by_test (eqb (number_of (step call register).reply) accepted)
        (λ h. never effects area size zero call (other (together named h)) (sym same ∙ eqb-true _ _ h))
        (λ h. (rw named h, ap all_zero (bytes ∙ stays effects area size zero call (λ n. eqb-false _ _ h (same ∙ n))) ∙ zero))

    elsewhere : names meter call ≡ false → Left
    unfolding is_accepted
    elsewhere unnamed = (rw unnamed, ap all_zero (unnamed_area local register whole call meter unnamed) ∙ zero)

    left : (is_accepted meter x ≡ true → is_enrolment call ≡ false) → Left
    left other = by_test (names meter call) (λ h. own h other) elsewhere

  none_accepted : (calls : List Call) (register : List ℕ) → Whole register → all_zero (area_of meter register) ≡ true → has_enrolment meter (exchanges calls register) ≡ false → has_accepted meter (exchanges calls register) ≡ false
  unfolding exchanges has_enrolment has_accepted
  none_accepted [] register whole zero h = refl
  none_accepted (call ∷ calls) register whole zero h =
      let rest = not_both (is_accepted meter (x call register whole zero)) (is_enrolment call) (has_enrolment meter (exchanges calls (step call register).register)) h in
      let l = left call register whole zero rest.0 in
      or_false l.0 (none_accepted calls (step call register).register (step_whole local register whole call) l.1 rest.1)

-- ---- what is not accepted is not entered
none_entered : (meter : ℕ) (xs : List Exchange) (l : Ledger) → has_accepted meter xs ≡ false → ledger_after meter xs l ≡ l
unfolding has_accepted ledger_after
none_entered meter [] l h = refl
none_entered meter (x ∷ xs) l h =
    let n = neither (is_accepted meter x) (has_accepted meter xs) h in
    rw n.0 (none_entered meter xs l n.1)

abbrev pub Without : ℕ → List Exchange → Type 0
Without meter xs = has_enrolment meter xs ≡ false → (has_accepted meter xs ≡ false) × ((ledger_of meter xs).standing ≡ []) × ((ledger_of meter xs).advances ≡ pos 0) × ((ledger_of meter xs).flags ≡ pos 0)

pub without_enrolment : Local → Effects → (meter : ℕ) → Near meter → (calls : List Call) (register : List ℕ) → Whole register → all_zero (area_of meter register) ≡ true → Without meter (exchanges calls register)
unfolding ledger_of empty_ledger
without_enrolment local effects meter near calls register whole zero h =
    let none = none_accepted local effects meter near calls register whole zero h in
    let empty = none_entered meter (exchanges calls register) empty_ledger none in
    (none, ap (λ (l : Ledger). l.standing) empty, ap (λ (l : Ledger). l.advances) empty, ap (λ (l : Ledger). l.flags) empty)
