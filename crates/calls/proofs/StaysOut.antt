-- A submission that was answered 8 is kept out of the area that it was sent to, whatever calls come after it: so it is never let in again, and
-- is one of 9 to 12 once a fold let its entry go.
use mathlib.Core.Path.{◌≡◌, refl, sym, ap, ◌∙◌}
use mathlib.Core.Bool.{true, false, and-true}
use mathlib.Core.List.{List, [], ◌∷◌}
use Prim.Native.Nat.{ℕ, ◌<◌}
use native.Mathlib.Omega.{arith}
use borrow.Author.Tests.{eqb-true, eqb-false}
use lib.Dec.{eqb, ltb}
use Rattle.terms.specs.declared.submission.Submission.{Submission}
use Rattle.terms.specs.Number.{accepted, misfit, no_meter, withdrawn_read}
use Rattle.terms.specs.Rule.{rule, first_broken}
use Rattle.register.specs.Area.{areas_in, area_of}
use Rattle.register.proofs.Areas.{area_length}
use Rattle.journal.specs.Journal.{journal_of}
use Rattle.calls.specs.declared.call.Call.{Call}
use Rattle.calls.specs.declared.call.Call.TheVariants.{Submit, Fold}
use Rattle.calls.specs.Checks.{is_withdrawn_read, submit_checks}
use Rattle.calls.specs.Calls.{act, place_of, is_misfit, is_no_place, place_number, Done, step}
use Rattle.calls.specs.Fold.{kept_from}
use Rattle.calls.specs.Play.{register_after, number_of}
use Rattle.calls.specs.FoldKeeps.{answered, is_out_by_day, is_kept_out, FoldKeepsOut, FoldsKeepOut, ResubmissionsStayOut}
use Rattle.calls.proofs.Bools.{by_test}
use Rattle.calls.proofs.Broken.{no_number}
use Rattle.calls.proofs.Effects.{Folded}
use Rattle.calls.proofs.Frame.{Whole, Near, near_all, room, own_reply, own_area_after, step_whole, other_area}
use Rattle.calls.proofs.Known.{local, effects, submit_number_lem}
use Rattle.calls.proofs.Refusals.{refusal_number, stops, there}
use Rattle.calls.proofs.Chains.{run_whole}
use Rattle.calls.proofs.Out.{Out, there_number, gone_number, out_number, eight_there, eight_out}
use Rattle.calls.proofs.OutKept.{Still, still_same, fold_out, call_out}

-- ---- what answers a submission
module _ (meter : ℕ) (s : Submission) (register : List ℕ) where
  abbrev area : List ℕ
  area = area_of meter register

  pub answers : Whole register → meter < areas_in register → answered meter s register ≡ first_broken (submit_checks s area)
  unfolding act place_of
  answers whole near = ap number_of (own_reply local register whole (Submit meter s) near) ∙ submit_number_lem s area

  -- 8 is no number of a register that does not fit, or of a place that it has not
  not_placed : eqb (place_number meter register) accepted ≡ false → answered meter s register ≡ withdrawn_read → ⊥
  unfolding place_of place_number
  not_placed h eight =
      let reply = ap (λ (d : Done). number_of d.reply) (stops (Submit meter s) register h) ∙ refusal_number (Submit meter s) (place_number meter register) in
      let z : accepted ≡ withdrawn_read = no_number withdrawn_read (rule misfit (is_misfit register) ∷ rule no_meter (is_no_place meter register) ∷ []) refl (sym reply ∙ eight) in
      omega arith

  placed : answered meter s register ≡ withdrawn_read → Whole register × (meter < areas_in register)
  unfolding place_of
  placed eight =
      by_test (eqb (place_number meter register) accepted)
      (there (Submit meter s) register)
      (λ h. absurd (not_placed h eight))

-- ---- every list of calls
module _ (meter : ℕ) (near : Near meter) (s : Submission) where
  step_still : (call : Call) (register : List ℕ) → Whole register → Out s (area_of meter register) → Still s (area_of meter register) (area_of meter (step call register).register)
  step_still call register whole o =
      by_test (eqb (place_of call) meter)
      (λ h.
      let at : place_of call ≡ meter = eqb-true _ _ h in
      let here : place_of call < areas_in register = rw at (near register whole) in
      let bytes : area_of meter (step call register).register ≡ (act call (area_of meter register)).area = cc (own_area_after local register whole call here) in
      rw bytes (call_out s (area_of meter register) o call (area_length meter register (room meter register (near register whole) whole))))
      (λ h. still_same s (area_of meter register) _ (other_area local register whole call meter (eqb-false _ _ h)) o)

  run_still : (calls : List Call) (register : List ℕ) → Whole register → Out s (area_of meter register) → Still s (area_of meter register) (area_of meter (register_after calls register))
  unfolding register_after
  run_still [] register whole o = still_same s (area_of meter register) _ refl o
  run_still (call ∷ calls) register whole o =
      let first = step_still call register whole o in
      let rest = run_still calls (step call register).register (step_whole local register whole call) first.out in
      record { out = rest.out; gone = λ w. rest.gone (first.gone w) }

  module _ (calls : List Call) (register : List ℕ) (whole : Whole register) (o : Out s (area_of meter register)) where
    abbrev end : List ℕ
    end = register_after calls register

    answers_end : answered meter s end ≡ first_broken (submit_checks s (area_of meter end))
    answers_end = let whole_end = run_whole local calls register whole in answers meter s end whole_end (near end whole_end)

    run_out : is_kept_out (answered meter s end) ≡ true
    run_out = ap is_kept_out answers_end ∙ out_number s (area_of meter end) (run_still calls register whole o).out

    run_gone : is_withdrawn_read s (journal_of (area_of meter register)).entries ≡ false → is_out_by_day (answered meter s end) ≡ true
    run_gone w =
        let still = run_still calls register whole o in
        ap is_out_by_day answers_end ∙ gone_number s (area_of meter end) still.out (still.gone w)

pub resubmissions_stay_out : ResubmissionsStayOut
unfolding ResubmissionsStayOut
resubmissions_stay_out meter s register calls eight =
    let whole = (placed meter s register eight).0 in
    let near = (placed meter s register eight).1 in
    run_out meter (near_all meter register whole near) s calls register whole
    (eight_out s (area_of meter register) (sym (answers meter s register whole near) ∙ eight))

-- ---- a fold
module _ (place : ℕ) (s : Submission) (register : List ℕ) (eight : answered place s register ≡ withdrawn_read) (folds : number_of (step (Fold place) register).reply ≡ accepted) where
  abbrev before : List ℕ
  before = area_of place register

  abbrev after : List ℕ
  after = (act (Fold place) before).area

  abbrev then : List ℕ
  then = (step (Fold place) register).register

  whole : Whole register
  whole = (placed place s register eight).0

  near : place < areas_in register
  near = (placed place s register eight).1

  number : first_broken (submit_checks s before) ≡ withdrawn_read
  number = sym (answers place s register whole near) ∙ eight

  bytes : area_of place then ≡ after
  unfolding place_of
  bytes = own_area_after local register whole (Fold place) near

  folded : Folded before after
  unfolding place_of
  folded =
      effects.fold place before (area_length place register (room place register near whole))
      (ap number_of (sym (own_reply local register whole (Fold place) near)) ∙ folds)

  out : Out s (area_of place then)
  out = rw bytes (fold_out s before (eight_out s before number) after folded)

  whole_then : Whole then
  whole_then = step_whole local register whole (Fold place)

  all_near : Near place
  all_near = near_all place register whole near

  answers_then : answered place s then ≡ first_broken (submit_checks s (area_of place then))
  answers_then = answers place s then whole_then (all_near then whole_then)

  goes : is_withdrawn_read s (journal_of (area_of place then)).entries ≡ ltb (kept_from (journal_of before).entries) s.day
  unfolding is_withdrawn_read
  goes = rw bytes (folded.left s.day s.value ∙ rw (eight_there s before number) (and-true (ltb (kept_from (journal_of before).entries) s.day)))

  pub fold_keeps_out : FoldKeepsOut place s register then
  fold_keeps_out =
      record {
        goes = goes;
        gone = λ w calls. run_gone place all_near s calls then whole_then out w;
        there = λ w. answers_then ∙ there_number s (area_of place then) out w;
      }

pub folds_keep_out : FoldsKeepOut
unfolding FoldsKeepOut
folds_keep_out = fold_keeps_out
