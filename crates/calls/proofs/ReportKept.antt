-- A report after a fold is the report before it.
use mathlib.Core.Path.{◌≡◌, sym, ap, ◌∙◌}
use mathlib.Core.Bool.{true}
use mathlib.Core.List.{List, ◌∷◌}
use Prim.Native.Nat.{ℕ, ◌<◌}
use borrow.Author.Tests.{eqb-true, eqb-false}
use lib.Dec.{eqb}
use lib.ListN.{length}
use Rattle.terms.specs.Number.{accepted}
use Rattle.register.specs.Area.{area_bytes, areas_in, area_of, all_zero}
use Rattle.register.proofs.Areas.{area_length}
use Rattle.journal.specs.Journal.{journal_of}
use Rattle.journal.specs.Numbers.{area_rules}
use Rattle.journal.specs.Sound.{is_sound}
use Rattle.journal.specs.Total.{report_of}
use Rattle.calls.specs.declared.call.Call.TheVariants.{Report as ReportCall, Fold}
use Rattle.calls.specs.declared.call.Reply.TheVariants.{Reported}
use Rattle.calls.specs.Checks.{report_checks}
use Rattle.calls.specs.Calls.{act, place_of, place_number, report_in, Done, step}
use Rattle.calls.specs.Play.{number_of}
use Rattle.calls.specs.FoldKeeps.{FoldsKeepReports}
use Rattle.calls.proofs.Bools.{by_test}
use Rattle.calls.proofs.Totals.{standing_stay, flagged_stay, total_stays}
use Rattle.calls.proofs.Effects.{Folded}
use Rattle.calls.proofs.Frame.{Whole, room, own_area_after, step_whole, other_area, same_answer}
use Rattle.calls.proofs.Known.{local, effects}
use Rattle.calls.proofs.Refusals.{stops, there}

-- ---- of the area that is folded
counts : (a after : List ℕ) → Folded a after → report_of (journal_of after) ≡ report_of (journal_of a)
unfolding report_of
counts a after f =
    let j = journal_of a in
    let s = f.stood in
    let rest = s.fourth ∷ s.older in
    rw (f.head_is, f.stand, standing_stay j s.newest s.second s.third rest s.are, flagged_stay j s.newest s.second s.third rest s.are, total_stays j s.newest s.second s.third rest s.are)

pub sound_report : (a : List ℕ) → is_sound a ≡ true → (report_in a).reply ≡ Reported (report_of (journal_of a))
unfolding report_in report_checks area_rules
sound_report a sound = by_test (all_zero a) (λ zero. absurd (effects.apart a zero sound)) (λ h. rw (h, sound))

area_keeps : (place : ℕ) (a : List ℕ) → length a ≡ area_bytes → (report_in (act (Fold place) a).area).reply ≡ (report_in a).reply
area_keeps place a size =
    let number = number_of (act (Fold place) a).reply in
    by_test (eqb number accepted)
    (λ h.
    let f = effects.fold place a size (eqb-true number accepted h) in
    sound_report (act (Fold place) a).area f.sound ∙ ap Reported (counts a _ f) ∙ sym (sound_report a f.was_sound))
    (λ h. ap (λ (x : List ℕ). (report_in x).reply) (effects.fold_refused place a (eqb-false number accepted h)))

-- ---- of every area of a register
module _ (place asked : ℕ) (register : List ℕ) where
  abbrev after : List ℕ
  after = (step (Fold place) register).register

  abbrev Keeps : Type 0
  Keeps = (step (ReportCall asked) after).reply ≡ (step (ReportCall asked) register).reply

  module _ (whole : Whole register) (near : place < areas_in register) where
    own : place ≡ asked → (report_in (area_of asked after)).reply ≡ (report_in (area_of asked register)).reply
    unfolding place_of
    own at =
        let size = area_length place register (room place register near whole) in
        rw (← at) (ap (λ (x : List ℕ). (report_in x).reply) (own_area_after local register whole (Fold place) near) ∙ area_keeps place (area_of place register) size)

    other : (place ≡ asked → ⊥) → (report_in (area_of asked after)).reply ≡ (report_in (area_of asked register)).reply
    unfolding place_of
    other apart = ap (λ (x : List ℕ). (report_in x).reply) (other_area local register whole (Fold place) asked apart)

    placed : Keeps
    unfolding act place_of
    placed =
        same_answer local after register (step_whole local register whole (Fold place)) whole (ReportCall asked)
        (by_test (eqb place asked) (λ h. own (eqb-true _ _ h)) (λ h. other (eqb-false _ _ h)))

  pub keeps : Keeps
  unfolding place_of
  keeps =
      by_test (eqb (place_number place register) accepted)
      (λ h. let t = there (Fold place) register h in placed t.0 t.1)
      (λ h. ap (λ (d : Done). (step (ReportCall asked) d.register).reply) (stops (Fold place) register h))

pub folds_keep_reports : FoldsKeepReports
unfolding FoldsKeepReports
folds_keep_reports = keeps
