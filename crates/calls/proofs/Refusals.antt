-- Demand 1. A call whose place is refused is answered at once, with the register as it was; any other is what `act` says of the area it names.
use mathlib.Core.Path.{◌≡◌, refl, sym, ap, ◌∙◌}
use mathlib.Core.Bool.{true, false}
use mathlib.Core.List.{List, [], ◌∷◌}
use Prim.Native.Nat.{ℕ, suc, ◌<◌}
use native.Mathlib.Omega.{arith}
use borrow.Author.Tests.{eqb-true, ne_eqb, leb-false, not-false}
use lib.Dec.{eqb}
use lib.ListN.{length, take, drop}
use Rattle.terms.specs.declared.submission.Submission.{Submission}
use Rattle.terms.specs.Number.{accepted, misfit, no_meter, low, high}
use Rattle.terms.specs.Entry.{kind_held}
use Rattle.terms.specs.Rule.{Rule, rule, first_broken}
use Rattle.register.specs.Area.{area_bytes, areas_in, area_of, with_area}
use Rattle.register.specs.Head.{offset_after, entry_offset}
use Rattle.register.proofs.Areas.{area_length, own_area}
use Rattle.register.proofs.Back.{entry_below, entry_above}
use Rattle.journal.specs.Journal.{journal_of, kept}
use Rattle.journal.specs.Numbers.{area_rules}
use Rattle.calls.specs.declared.call.Call.{Call}
use Rattle.calls.specs.declared.call.Call.TheVariants.{Enrol, Submit, Withdraw, Report as ReportCall, Fold, Trial}
use Rattle.calls.specs.Checks.{taken_flag, enrol_checks, submit_checks, withdraw_rules, withdraw_checks, report_checks, fold_rules, fold_checks}
use Rattle.calls.specs.Calls.{is_volume_query, plate_of, written, enrol_in, submit_in, withdraw_in, report_in, fold_in, trial_in, entry_for, act, place_of, refusal_of, is_misfit, is_no_place, place_number, on_area, Done, done, step}
use Rattle.journal.specs.Total.{report_of}
use Rattle.calls.specs.Play.{number_of}
use Rattle.calls.specs.DemandOne.{HasZeros, StoresHeld, Stores, CallHolds, DemandOne}
use Rattle.calls.proofs.Bools.{either_of, by_test}
use Rattle.calls.proofs.Broken.{have_others, no_number, unbroken}
use Rattle.calls.proofs.Acted.{query_refused, query_held}
use Rattle.calls.proofs.Frame.{Whole, room, own_reply, own_area_after, step_whole, other_area}
use Rattle.calls.proofs.Known.{local, effects, enrol_number_lem, submit_number_lem, withdraw_number_lem, fold_number_lem}

-- ---- a refusal, in the form of any call's answer
pub refusal_number : (call : Call) (number : ℕ) → number_of (refusal_of call number) ≡ number
unfolding number_of refusal_of
refusal_number (Enrol place profile dials capacity) number = refl
refusal_number (Submit place s) number = refl
refusal_number (Withdraw place day value) number = refl
refusal_number (ReportCall place) number = refl
refusal_number (Fold place) number = refl
refusal_number (Trial place s) number = refl

refusal_zeros : (call : Call) (number : ℕ) → HasZeros (refusal_of call number)
unfolding HasZeros refusal_of
refusal_zeros (Enrol place profile dials capacity) number = (refl, refl)
refusal_zeros (Submit place s) number = (refl, refl)
refusal_zeros (Withdraw place day value) number = (refl, refl)
refusal_zeros (ReportCall place) number = (refl, refl, refl)
refusal_zeros (Fold place) number = (refl, refl)
refusal_zeros (Trial place s) number = (refl, refl)

-- ---- a call on an area: any answer but 0 is a refusal
report_number : (area : List ℕ) → number_of (report_in area).reply ≡ first_broken (report_checks area)
unfolding report_in report_of number_of
report_number area =
    by_test (eqb (first_broken (report_checks area)) accepted)
    (λ h. rw h (sym (eqb-true _ _ h)))
    (λ h. rw h)

submit_zeros : (s : Submission) (area : List ℕ) → (number_of (submit_in s area).reply ≡ accepted → ⊥) → HasZeros (submit_in s area).reply
unfolding submit_in HasZeros
submit_zeros s area h =
    rw (ne_eqb _ accepted (λ e. h (submit_number_lem s area ∙ e)))
    (by_test (is_volume_query (first_broken (submit_checks s area))) (λ q. rw q (refl, refl)) (λ q. rw q (refl, refl)))

act_zeros : (call : Call) (area : List ℕ) → (number_of (act call area).reply ≡ accepted → ⊥) → HasZeros (act call area).reply
unfolding act enrol_in withdraw_in report_in fold_in trial_in HasZeros
act_zeros (Enrol place profile dials capacity) area h = rw (ne_eqb _ accepted (λ e. h (enrol_number_lem (plate_of profile dials capacity) area ∙ e))) (refl, refl)
act_zeros (Submit place s) area h = submit_zeros s area h
act_zeros (Withdraw place day value) area h = rw (ne_eqb _ accepted (λ e. h (withdraw_number_lem day value area ∙ e))) (refl, refl)
act_zeros (ReportCall place) area h = rw (ne_eqb _ accepted (λ e. h (report_number area ∙ e))) (refl, refl, refl)
act_zeros (Fold place) area h = rw (ne_eqb _ accepted (λ e. h (fold_number_lem area ∙ e))) (refl, refl)
act_zeros (Trial place s) area h = submit_zeros s area h

-- ---- 19 and 20 are numbers of a submission alone: the rules of the other calls have other numbers
no_query : (rs : List Rule) → have_others low rs ≡ true → have_others high rs ≡ true → is_volume_query (first_broken rs) ≡ true → ⊥
no_query rs l h q =
    either_of (eqb (first_broken rs) low) (eqb (first_broken rs) high) q
    (λ t. let z : accepted ≡ low = no_number low rs l (eqb-true _ _ t) in omega arith)
    (λ t. let z : accepted ≡ high = no_number high rs h (eqb-true _ _ t) in omega arith)

place_rules : (place : ℕ) (register : List ℕ) → is_volume_query (place_number place register) ≡ true → ⊥
unfolding place_number
place_rules place register = no_query (rule misfit (is_misfit register) ∷ rule no_meter (is_no_place place register) ∷ []) refl refl

-- a submission that is held changes no byte but the held entry's
module _ (s : Submission) (area : List ℕ) (size : length area ≡ area_bytes) (q : is_volume_query (first_broken (submit_checks s area)) ≡ true) where
  query_area : (submit_in s area).area ≡ written kind_held s area
  unfolding submit_in
  query_area = rw (query_refused _ q, q)

  stores_held : StoresHeld s area (submit_in s area).area
  unfolding written entry_offset offset_after
  stores_held =
      let here = entry_offset area (kept (journal_of area).entries) in
      let next = entry_offset area (suc (kept (journal_of area).entries)) in
      let e = entry_for kind_held s (taken_flag s (journal_of area)) in
      record {
        held = query_held s area size q;
        below = ap (take here) query_area ∙ entry_below area here e here (omega arith);
        above = ap (drop next) query_area ∙ entry_above area here e next (omega arith);
      }

act_stores : (call : Call) (area : List ℕ) → length area ≡ area_bytes → is_volume_query (number_of (act call area).reply) ≡ true → Stores call area (act call area).area
unfolding act Stores enrol_checks withdraw_checks report_checks fold_checks area_rules withdraw_rules fold_rules
act_stores (Enrol place profile dials capacity) area size q = no_query (enrol_checks (plate_of profile dials capacity) area) refl refl (rw (enrol_number_lem (plate_of profile dials capacity) area) at q)
act_stores (Submit place s) area size q = stores_held s area size (rw (submit_number_lem s area) at q)
act_stores (Withdraw place day value) area size q = no_query (withdraw_checks day value area) refl refl (rw (withdraw_number_lem day value area) at q)
act_stores (ReportCall place) area size q = no_query (report_checks area) refl refl (rw (report_number area) at q)
act_stores (Fold place) area size q = no_query (fold_checks area) refl refl (rw (fold_number_lem area) at q)
act_stores (Trial place s) area size q = effects.trial place s area

-- ---- the claim, for a place that is refused and for one that the register has
module _ (call : Call) (register : List ℕ) where
  abbrev place : ℕ
  place = place_of call

  abbrev number : ℕ
  number = place_number place register

  pub stops : eqb number accepted ≡ false → step call register ≡ done (refusal_of call number) register
  unfolding step
  stops h = rw h

  refused_holds : eqb number accepted ≡ false → CallHolds call register
  refused_holds h =
      let same = ap (λ (d : Done). d.register) (stops h) in
      let reply = ap (λ (d : Done). d.reply) (stops h) in
      record {
        unwritten = λ _. same;
        stored = λ q. absurd (place_rules place register (rw (reply, refusal_number call number) at q));
        zeros = λ _. rw reply (refusal_zeros call number);
        elsewhere = λ p _. ap (area_of p) same;
        size = ap length same;
      }

  -- what a call that is let through does
  goes_on : eqb number accepted ≡ true → step call register ≡ on_area place (act call (area_of place register)) register
  unfolding step
  goes_on h = rw h

  pub there : eqb number accepted ≡ true → Whole register × (place < areas_in register)
  unfolding place_number is_misfit is_no_place
  there h =
      let u = unbroken accepted (rule misfit (is_misfit register) ∷ rule no_meter (is_no_place place register) ∷ []) refl (eqb-true _ _ h) in
      (eqb-true _ _ (not-false _ u.0), leb-false _ _ u.1.0)

  placed_holds : eqb number accepted ≡ true → CallHolds call register
  unfolding on_area
  placed_holds h =
      let whole = (there h).0 in
      let near = (there h).1 in
      let area = area_of place register in
      let reply = own_reply local register whole call near in
      let put = ap (λ (d : Done). d.register) (goes_on h) in
      record {
        unwritten = λ n. put ∙ ap (λ (a : List ℕ). with_area place a register) (local.unchanged call area (rw reply at n)) ∙ own_area place register;
        stored = λ q. rw (own_area_after local register whole call near) (act_stores call area (area_length place register (room place register near whole)) (rw reply at q));
        zeros = λ n. rw reply (act_zeros call area (λ e. n (ap number_of reply ∙ e)));
        elsewhere = other_area local register whole call;
        size = step_whole local register whole call ∙ sym whole;
      }

  call_holds : CallHolds call register
  call_holds = by_test (eqb number accepted) placed_holds refused_holds

pub demand_one : DemandOne
unfolding DemandOne
demand_one = call_holds
