-- What is kept of a tally and the area of its meter, and that every call and its answer keep it: both are all zero, or the area is sound and
-- the tally is that of its journal.
use mathlib.Core.Path.{◌≡◌, sym, ap, ◌∙◌}
use mathlib.Core.Logic.{◌⊎◌, inr, ⊎_elim}
use mathlib.Core.Bool.{true}
use mathlib.Core.List.{List, [], ◌∷◌}
use Prim.Native.Nat.{ℕ, ◌≤◌}
use native.Mathlib.Omega.{arith}
use borrow.Author.Tests.{eqb-true, eqb-false, leb-true, ltb-true}
use lib.Dec.{eqb, ltb}
use lib.IntN.{ℤ, neg_ℤ}
use lib.ListN.{length}
use Rattle.terms.specs.declared.entry.Entry.{Entry}
use Rattle.terms.specs.declared.profile.Profile.{Profile}
use Rattle.terms.specs.declared.submission.Submission.{Submission}
use Rattle.terms.specs.Entry.{kind_standing, slot_at}
use Rattle.terms.specs.Number.{accepted}
use Rattle.rules.specs.Volume.{advance_over}
use Rattle.register.specs.Area.{area_bytes, all_zero}
use Rattle.journal.specs.Journal.{journal_of, day_of}
use Rattle.journal.specs.Sound.{days_rise, is_sound}
use Rattle.calls.specs.declared.call.Call.{Call}
use Rattle.calls.specs.declared.call.Call.TheVariants.{Enrol, Submit, Withdraw, Report as ReportCall, Fold, Trial}
use Rattle.calls.specs.declared.call.Reply.{Reply}
use Rattle.calls.specs.Calls.{act, entry_for}
use Rattle.calls.specs.Checks.{taken_flag}
use Rattle.calls.specs.Fold.{head_after}
use Rattle.calls.specs.Play.{number_of, may_change}
use Rattle.calls.proofs.Bools.{both, by_test}
use Rattle.calls.proofs.Totals.{Bare, standing_stay, flagged_stay, first_stays}
use Rattle.calls.proofs.Effects.{meter_head, standing_reads, Enrolled, Held, Submitted, Withdrew, Folded}
use Rattle.calls.proofs.Known.{effects}
use Rattle.tally.specs.declared.tally.Tally.{Tally}
use Rattle.tally.specs.Tally.{zero_tally, is_zero, tally_number}
use Rattle.tally.specs.Change.{enrolled, with_read, without_read, taken, tally_after}
use Rattle.tally.specs.Kept.{most_day, is_dated}
use Rattle.tally.proofs.OfJournal.{last_value, area_tally, last_day, none_bare, sound_number}
use Rattle.tally.proofs.Wants.{Wants, made, wants_enrolled, wants_more, wants_less}

-- nothing was accepted yet
pub record Fresh (area : List ℕ) (t : Tally) : Type 0 where
  pub zero : all_zero area ≡ true
  pub tally_is : t ≡ zero_tally

-- the meter is enrolled
pub record Live (area : List ℕ) (t : Tally) : Type 0 where
  pub sound : is_sound area ≡ true
  pub tally_is : t ≡ area_tally area
  pub dated : last_day area ≤ most_day

abbrev pub Kept : List ℕ → Tally → Type 0
Kept area t = Fresh area t ⊎ Live area t

live_number : (area : List ℕ) (t : Tally) → Live area t → tally_number t ≡ accepted
live_number area t g = ap tally_number g.tally_is ∙ sound_number area g.sound g.dated

-- the read before the last is of an earlier day
earlier : (e : Entry) (ss : List Entry) → days_rise (e ∷ ss) ≡ true → e.day ≤ most_day → day_of (slot_at ss 0) ≤ most_day
unfolding days_rise slot_at day_of
earlier e [] rise dated = omega arith
earlier e (s ∷ ss) rise dated = omega (arith, ltb-true s.day e.day (both (ltb s.day e.day) _ rise).0)

-- ---- one accepted call
module _ (area : List ℕ) (t : Tally) (kept : Kept area t) where
  -- a sound area is no fresh one
  live : is_sound area ≡ true → Live area t
  live sound = ⊎_elim (λ f. absurd (effects.apart area f.zero sound)) (λ g. g) kept

  fresh : all_zero area ≡ true → Fresh area t
  fresh zero = ⊎_elim (λ f. f) (λ g. absurd (effects.apart area zero g.sound)) kept

  module _ (after : List ℕ) where
    hold_kept : Held area after → Live after t
    hold_kept h =
        let g = live h.was_sound in
        record { sound = h.sound; tally_is = rw (h.same_head, h.same_standing) g.tally_is; dated = rw h.same_standing g.dated }

    fold_same : Folded area after → area_tally after ≡ area_tally area
    unfolding head_after last_value
    fold_same f =
        let j = journal_of area in
        let s = f.stood in
        let rest = s.fourth ∷ s.older in
        rw (f.head_is, f.stand, standing_stay j s.newest s.second s.third rest s.are, flagged_stay j s.newest s.second s.third rest s.are, first_stays j s.newest s.second s.third rest s.are _)
        (rw s.are)

    fold_kept : Folded area after → Live after t
    unfolding slot_at
    fold_kept f =
        let g = live f.was_sound in
        record { sound = f.sound; tally_is = g.tally_is ∙ sym (fold_same f); dated = rw f.stand (rw f.stood.are at g.dated) }

    module _ (reply : Reply) where
      enrol_kept : (place : ℕ) (profile : Profile) (dials capacity : ℕ) → Enrolled dials area after reply → Live after (taken (Enrol place profile dials capacity) reply t)
      unfolding taken is_zero slot_at day_of
      enrol_kept place profile dials capacity e =
          let f = fresh e.zero in
          let bare = none_bare after e.sound e.none in
          let dated : last_day after ≤ most_day = rw e.none (omega arith) in
          let wants : Wants (enrolled dials) (area_tally after) = rw (← e.dials_are, e.none) (wants_enrolled (meter_head after) bare) in
          record {
            sound = e.sound;
            tally_is = rw (e.replied, f.tally_is) (made (enrolled dials) (area_tally after) zero_tally wants (sound_number after e.sound dated));
            dated = dated;
          }

      submit_kept : (place : ℕ) (s : Submission) → s.day ≤ most_day → Submitted s area after reply → Live after (taken (Submit place s) reply t)
      unfolding taken entry_for slot_at day_of
      submit_kept place s day u =
          let g = live u.was_sound in
          let flag = taken_flag s (journal_of area) in
          let e = entry_for kind_standing s flag in
          let dated : last_day after ≤ most_day = rw u.one_more day in
          let wants : Wants (with_read s.value flag t) (area_tally after) =
          rw (g.tally_is, u.same_head, u.one_more) (wants_more (meter_head area) e u.flag (standing_reads area) (none_bare area u.was_sound))
          in
          record {
            sound = u.sound;
            tally_is = rw (u.replied, live_number area t g) (made (with_read s.value flag t) (area_tally after) t wants (sound_number after u.sound dated));
            dated = dated;
          }

      withdraw_kept : (place day value : ℕ) → Withdrew day value area after reply → Live after (taken (Withdraw place day value) reply t)
      unfolding taken slot_at day_of
      withdraw_kept place day value w =
          let g = live w.was_sound in
          let e = w.last in
          let head = meter_head area in
          let ss = standing_reads after in
          let a : ℤ = neg_ℤ (advance_over head.dials e.value e.flag (slot_at ss 0)) in
          let dated : last_day after ≤ most_day = earlier e ss (rw w.one_less at (effects.rise area w.was_sound)) (rw w.one_less at g.dated) in
          let bare : ss ≡ [] → Bare head = λ none. rw w.same_head at (none_bare after w.sound none) in
          let wants : Wants (without_read e.flag a t) (area_tally after) =
          rw (g.tally_is, w.one_less, w.same_head) (wants_less head e w.flag ss bare)
          in
          record {
            sound = w.sound;
            tally_is = rw (w.replied, live_number area t g) (made (without_read e.flag a t) (area_tally after) t wants (sound_number after w.sound dated));
            dated = dated;
          }

  -- ---- any call, accepted or not
  abbrev Next : Call → Type 0
  Next call = let after = act call area in Kept after.area (tally_after call after.reply t)

  -- an accepted call changes the tally, any other does not
  by_answer : (call : Call) →
      let after = act call area in
      (number_of after.reply ≡ accepted → Kept after.area (taken call after.reply t))
      → ((number_of after.reply ≡ accepted → ⊥) → Kept after.area t)
      → Next call
  unfolding tally_after
  by_answer call yes_kept no_kept =
      let number = number_of (act call area).reply in
      by_test (eqb number accepted)
      (λ h. rw h (yes_kept (eqb-true number accepted h)))
      (λ h. rw h (no_kept (eqb-false number accepted h)))

  unchanged : (after : List ℕ) → after ≡ area → Kept after t
  unchanged after e = rw e kept

  pub call_kept : (call : Call) → length area ≡ area_bytes → is_dated call ≡ true → Next call
  unfolding taken is_dated
  call_kept (Enrol place profile dials capacity) size dated =
      by_answer (Enrol place profile dials capacity)
      (λ h. inr (enrol_kept _ _ place profile dials capacity (effects.enrol place profile dials capacity area size h)))
      (λ h. unchanged _ (effects.enrol_refused_lem place profile dials capacity area h))
  call_kept (Submit place s) size dated =
      by_answer (Submit place s)
      (λ h. inr (submit_kept _ _ place s (leb-true _ _ dated) (effects.submit place s area size h)))
      (λ h.
      by_test (may_change (number_of (act (Submit place s) area).reply))
      (λ q. inr (hold_kept _ (effects.hold place s area size h q)))
      (λ q. unchanged _ (effects.submit_refused place s area q)))
  call_kept (Withdraw place day value) size dated =
      by_answer (Withdraw place day value)
      (λ h. inr (withdraw_kept _ _ place day value (effects.withdraw place day value area size h)))
      (λ h. unchanged _ (effects.withdraw_refused_lem place day value area h))
  call_kept (ReportCall place) size dated =
      by_answer (ReportCall place)
      (λ h. unchanged _ (effects.report place area))
      (λ h. unchanged _ (effects.report place area))
  call_kept (Fold place) size dated =
      by_answer (Fold place)
      (λ h. inr (fold_kept _ (effects.fold place area size h)))
      (λ h. unchanged _ (effects.fold_refused place area h))
  call_kept (Trial place s) size dated =
      by_answer (Trial place s)
      (λ h. unchanged _ (effects.trial place s area))
      (λ h. unchanged _ (effects.trial place s area))
