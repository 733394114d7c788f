-- A tally over a whole list of calls, and the claim: a report from it is a full report of its meter.
use mathlib.Core.Path.{◌≡◌, refl, sym, ap, ◌∙◌}
use mathlib.Core.Logic.{inl, ⊎_elim}
use mathlib.Core.Bool.{true}
use mathlib.Core.List.{List, [], ◌∷◌}
use Prim.Native.Nat.{ℕ, ◌≤◌}
use borrow.Author.Tests.{leb-true, leb-false}
use lib.Dec.{leb}
use Rattle.terms.specs.Number.{no_meter}
use Rattle.register.specs.Area.{areas_in, area_of}
use Rattle.register.proofs.Areas.{same_areas}
use Rattle.calls.specs.declared.call.Call.{Call}
use Rattle.calls.specs.declared.call.Call.TheVariants.{Report as ReportCall}
use Rattle.calls.specs.declared.call.Reply.TheVariants.{Reported}
use Rattle.calls.specs.Calls.{act, report_in, place_of, refusal_of, Done, step}
use Rattle.calls.specs.Play.{exchanges, register_after, zero_register, number_of, names}
use Rattle.calls.proofs.Bools.{both, by_test}
use Rattle.calls.proofs.Frame.{Whole, Near, near_all, own_reply, step_whole, named_place, refuses}
use Rattle.calls.proofs.Chains.{run_whole, zero_whole, zero_area}
use Rattle.calls.proofs.Known.{local}
use Rattle.calls.proofs.Refusals.{refusal_number}
use Rattle.tally.specs.declared.tally.Tally.{Tally}
use Rattle.tally.specs.Tally.{zero_tally, is_zero, tally_number, tally_report}
use Rattle.tally.specs.Change.{tally_after}
use Rattle.tally.specs.Kept.{tally_over, is_dated, are_dated, TalliesReport}
use Rattle.tally.proofs.OfJournal.{sound_tally_report, zero_report}
use Rattle.tally.proofs.Changes.{Kept}
use Rattle.tally.proofs.StepOwn.{changed, own}
use Rattle.tally.proofs.StepOther.{other}

-- a report from a tally that is kept is a report of the area
kept_report : (area : List ℕ) (t : Tally) → Kept area t → Reported (tally_report t) ≡ (report_in area).reply
kept_report area t kept =
    ⊎_elim
    (λ f. rw f.tally_is (zero_report area f.zero))
    (λ g. rw g.tally_is (sound_tally_report area g.sound g.dated))
    kept

-- ---- a meter of the register
module _ (meter : ℕ) (near : Near meter) where
  module _ (call : Call) (register : List ℕ) (whole : Whole register) (dated : is_dated call ≡ true) (t : Tally) (kept : Kept (area_of meter register) t) where
    abbrev Changed : Type 0
    Changed = Kept (area_of meter (step call register).register) (changed meter call register t)

    step_kept : Changed
    step_kept = by_test (names meter call) (own meter near call register whole dated t kept) (other meter call register whole t kept)

  run_kept : (calls : List Call) (register : List ℕ) → Whole register → are_dated calls ≡ true → (t : Tally) → Kept (area_of meter register) t → Kept (area_of meter (register_after calls register)) (tally_over meter (exchanges calls register) t)
  unfolding register_after exchanges tally_over are_dated
  run_kept [] register whole dated t kept = kept
  run_kept (call ∷ calls) register whole dated t kept =
      let d = both (is_dated call) (are_dated calls) dated in
      run_kept calls (step call register).register (step_whole local register whole call) d.1 _ (step_kept call register whole d.0 t kept)

  near_reports : (calls : List Call) → are_dated calls ≡ true → Reported (tally_report (tally_over meter (exchanges calls zero_register) zero_tally)) ≡ (step (ReportCall meter) (register_after calls zero_register)).reply
  unfolding act place_of
  near_reports calls dated =
      let after = register_after calls zero_register in
      let whole = run_whole local calls zero_register zero_whole in
      let start : Kept (area_of meter zero_register) zero_tally = inl (record { zero = zero_area meter; tally_is = refl }) in
      kept_report (area_of meter after) _ (run_kept calls zero_register zero_whole dated zero_tally start)
      ∙ sym (own_reply local after whole (ReportCall meter) (near after whole))

-- ---- a place that the register does not have: every call that names it is refused, and so is a report
abbrev Far : ℕ → Type 0
Far p = (register : List ℕ) → Whole register → areas_in register ≤ p

module _ (meter : ℕ) (far : Far meter) where
  step_far : (call : Call) (register : List ℕ) → Whole register → (t : Tally) → changed meter call register t ≡ t
  unfolding tally_after
  step_far call register whole t =
      by_test (names meter call)
      (λ h.
      let past : areas_in register ≤ place_of call = rw (named_place meter call h) (far register whole) in
      let number : number_of (step call register).reply ≡ no_meter =
      ap (λ (d : Done). number_of d.reply) (refuses local register whole call past) ∙ refusal_number call no_meter
      in
      rw (h, number))
      (λ h. rw h)

  run_far : (calls : List Call) (register : List ℕ) → Whole register → (t : Tally) → tally_over meter (exchanges calls register) t ≡ t
  unfolding exchanges tally_over
  run_far [] register whole t = refl
  run_far (call ∷ calls) register whole t =
      run_far calls (step call register).register (step_whole local register whole call) _ ∙ step_far call register whole t

  far_reports : (calls : List Call) → Reported (tally_report (tally_over meter (exchanges calls zero_register) zero_tally)) ≡ (step (ReportCall meter) (register_after calls zero_register)).reply
  unfolding place_of refusal_of tally_report tally_number is_zero
  far_reports calls =
      let after = register_after calls zero_register in
      let whole = run_whole local calls zero_register zero_whole in
      rw (run_far calls zero_register zero_whole zero_tally)
      (sym (ap (λ (d : Done). d.reply) (refuses local after whole (ReportCall meter) (far after whole))))

-- ---- the claim, for a place that the register has and for one that it has not
pub tallies_report : TalliesReport
unfolding TalliesReport
tallies_report meter calls dated =
    by_test (leb (areas_in zero_register) meter)
    (λ h. far_reports meter (λ register whole. rw (same_areas register zero_register (whole ∙ sym zero_whole)) (leb-true _ _ h)) calls)
    (λ h. near_reports meter (near_all meter zero_register zero_whole (leb-false _ _ h)) calls dated)
