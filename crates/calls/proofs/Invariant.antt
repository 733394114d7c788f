-- The invariant of a run at one meter: its area is all zero and nothing was accepted, or it is sound and the ledger says what its journal says.
use mathlib.Core.Path.{◌≡◌, refl, sym, ap, ◌∙◌}
use mathlib.Core.Logic.{◌⊎◌, inr, ⊎_elim}
use mathlib.Core.Bool.{true, false, cond}
use mathlib.Core.List.{List, [], ◌∷◌, ◌++◌}
use Prim.Native.Nat.{ℕ}
use native.Mathlib.Omega.{arith}
use borrow.Author.Tests.{eqb-true, eqb-false}
use lib.Dec.{eqb}
use lib.IntN.{ℤ, pos, neg_ℤ}
use lib.ListN.{length}
use Rattle.terms.specs.declared.profile.Profile.{Profile}
use Rattle.terms.specs.declared.answer.Answer.{Answer}
use Rattle.terms.specs.declared.submission.Submission.{Submission}
use Rattle.terms.specs.Answer.{answer}
use Rattle.terms.specs.Entry.{kind_standing, slot_at}
use Rattle.terms.specs.Number.{accepted}
use Rattle.rules.specs.Volume.{advance_over}
use Rattle.register.specs.declared.head.Head.{Head}
use Rattle.register.specs.Area.{area_bytes, all_zero}
use Rattle.journal.specs.Journal.{journal_of, first_value}
use Rattle.journal.specs.Sound.{any, has_read, is_sound}
use Rattle.calls.specs.declared.call.Call.{Call}
use Rattle.calls.specs.declared.call.Call.TheVariants.{Enrol, Submit, Withdraw, Report as ReportCall, Fold, Trial}
use Rattle.calls.specs.declared.call.Reply.{Reply}
use Rattle.calls.specs.Checks.{taken_flag}
use Rattle.calls.specs.Calls.{act, entry_for, submitted_advance}
use Rattle.journal.specs.Total.{flagged_in}
use Rattle.calls.specs.Play.{number_of, may_change}
use Rattle.calls.specs.Ledger.{Named, named, Ledger, take_out, is_among, are_none_of, flag_of, entered}
use Rattle.calls.specs.DemandThree.{names_of}
use Rattle.calls.proofs.Bools.{by_test}
use Rattle.calls.proofs.Totals.{IsFlag, Bare, flagged_none, first_bare, flagged_bare, folded_bare}
use Rattle.calls.proofs.Names.{names_rise, read_is, take_newest}
use Rattle.calls.proofs.Says.{first_named, Says, total_none, says_more, says_less, says_folded, standing_was}
use Rattle.calls.proofs.Effects.{meter_head, standing_reads, withdrawn_reads, Enrolled, Held, Submitted, Withdrew, Folded, Effects}

-- nothing was accepted yet
pub record Fresh (area : List ℕ) (l : Ledger) : Type 0 where
  pub zero : all_zero area ≡ true
  pub standing_is : l.standing ≡ []
  pub advances_are : l.advances ≡ pos 0
  pub flags_are : l.flags ≡ pos 0
  pub withdrawn_is : l.withdrawn ≡ []
  pub folded_is : l.folded ≡ 0

-- the meter is enrolled
pub record Live (area : List ℕ) (l : Ledger) : Type 0 where
  pub sound : is_sound area ≡ true
  pub says : Says (meter_head area) (standing_reads area) (withdrawn_reads area) l

abbrev pub Good : List ℕ → Ledger → Type 0
Good area l = Fresh area l ⊎ Live area l

-- ---- an answered flag counts as itself
abbrev counted : ℕ → ℤ
counted f = cond (eqb f 1) (pos 1) (pos 0)

pub flag_counts : (a : Answer) → IsFlag a.flag → flag_of a ≡ pos a.flag
unfolding flag_of
flag_counts a flag = ⊎_elim (λ z. ap counted z ∙ ap pos (sym z)) (λ o. ap counted o ∙ ap pos (sym o)) flag

-- ---- one accepted call
module _ (effects : Effects) (area : List ℕ) (l : Ledger) where
  -- a sound area is no fresh one
  live : is_sound area ≡ true → Good area l → Live area l
  live sound good = ⊎_elim (λ f. absurd (effects.apart area f.zero sound)) (λ g. g) good

  fresh : all_zero area ≡ true → Good area l → Fresh area l
  fresh zero good = ⊎_elim (λ f. f) (λ g. absurd (effects.apart area zero g.sound)) good

  enrol_good : (place : ℕ) (profile : Profile) (dials capacity : ℕ) (after : List ℕ) (reply : Reply) → Enrolled dials area after reply → Good area l → Live after (entered (Enrol place profile dials capacity) reply l)
  unfolding entered names_of is_among are_none_of names_rise first_named first_value
  enrol_good place profile dials capacity after reply e good =
      let f = fresh e.zero good in
      let head = meter_head after in
      let uncarried = effects.carried after e.sound e.none in
      let bare : Bare head = record { uncarried = uncarried; none = effects.bare after uncarried } in
      let flagged : flagged_in head [] ≡ 0 = flagged_bare head [] bare ∙ flagged_none in
      let folded = folded_bare head bare in
      record {
        sound = e.sound;
        says =
            rw e.none
            (record {
              dials_are = e.dials_are;
              older = [];
              standing_is = sym f.standing_is;
              older_are = sym folded;
              folded_is = folded ∙ sym f.folded_is;
              first_is = ap first_named f.standing_is ∙ sym (first_bare head [] bare);
              advances_are = f.advances_are ∙ sym (total_none head);
              flags_are = f.flags_are ∙ ap pos (sym flagged);
              rise = ap names_rise f.standing_is;
              apart = ap (λ (rs : List Named). are_none_of rs l.withdrawn) f.standing_is;
              withdrawn_are = λ d v t. absurd (let z : ◌≡◌ {A = ℕ} 0 1 = cc (t, f.withdrawn_is) in let g : ⊥ = omega arith in g);
              bare = λ _. bare;
              stands = λ _. uncarried;
            });
      }

  hold_good : (after : List ℕ) → Held area after → Good area l → Live after l
  hold_good after h good =
      let g = live h.was_sound good in
      record { sound = h.sound; says = rw (h.same_head, h.same_standing, h.same_withdrawn) g.says }

  submit_good : (place : ℕ) (s : Submission) (after : List ℕ) (reply : Reply) → Submitted s area after reply → Good area l → Live after (entered (Submit place s) reply l)
  unfolding entered entry_for submitted_advance
  submit_good place s after reply u good =
      let g = live u.was_sound good in
      let f = taken_flag s (journal_of area) in
      let e = entry_for kind_standing s f in
      let a : ℤ = submitted_advance s (journal_of area) in
      rw (u.replied, flag_counts (answer accepted f a) u.flag)
      (record {
        sound = u.sound;
        says =
            rw (u.same_head, u.one_more, u.same_withdrawn)
            (says_more (meter_head area) (standing_reads area) (withdrawn_reads area) l g.says e u.flag u.first_flag a refl u.dated u.later u.fresh (effects.rise area u.was_sound));
      })

  withdraw_good : (place day value : ℕ) (after : List ℕ) (reply : Reply) → Withdrew day value area after reply → Good area l → Live after (entered (Withdraw place day value) reply l)
  unfolding entered
  withdraw_good place day value after reply w good =
      let g = live w.was_sound good in
      let e = w.last in
      let ss = standing_reads after in
      let head = meter_head area in
      let named_is = read_is day value e w.names_it in
      let a : ℤ = advance_over head.dials e.value e.flag (slot_at ss 0) in
      let before : Says head (e ∷ ss) (withdrawn_reads area) l = rw w.one_less at g.says in
      let stands : ss ≡ [] → head.carried ≡ false = λ none. ap (λ (h : Head). h.carried) (sym w.same_head) ∙ effects.carried after w.sound none in
      let has : any (has_read e.day e.value) (withdrawn_reads after) ≡ true = rw (named_is.0, named_is.1) w.has in
      let left : take_out (named day value) l.standing ≡ names_of ss ++ before.older =
      ap (take_out (named day value)) (sym (standing_was head e ss (withdrawn_reads area) (withdrawn_reads after) l before w.flag stands w.first_flag))
      ∙ take_newest day value e (names_of ss ++ before.older) w.names_it
      in
      rw (w.replied, flag_counts (answer accepted e.flag (neg_ℤ a)) w.flag, left, ← named_is.0, ← named_is.1)
      (record {
        sound = w.sound;
        says = rw w.same_head (says_less head e ss (withdrawn_reads area) (withdrawn_reads after) l before w.flag stands w.first_flag a refl w.keeps has);
      })

  fold_good : (place : ℕ) (after : List ℕ) (reply : Reply) → Folded area after → Good area l → Live after (entered (Fold place) reply l)
  unfolding entered
  fold_good place after reply f good =
      let g = live f.was_sound good in
      record {
        sound = f.sound;
        says = rw (f.head_is, f.stand) (says_folded (journal_of area) (withdrawn_reads after) l f.stood g.says (effects.rise area f.was_sound) f.gone);
      }

  -- ---- any call, accepted or not
  abbrev Next : Call → Type 0
  Next call =
      let after = act call area in
      Good after.area (cond (eqb (number_of after.reply) accepted) (entered call after.reply l) l)

  -- an accepted call is entered, any other is not
  by_answer : (call : Call) →
      let after = act call area in
      (number_of after.reply ≡ accepted → Good after.area (entered call after.reply l))
      → ((number_of after.reply ≡ accepted → ⊥) → Good after.area l)
      → Next call
  by_answer call yes_good no_good =
      let number = number_of (act call area).reply in
      by_test (eqb number accepted)
      (λ h. rw h (yes_good (eqb-true number accepted h)))
      (λ h. rw h (no_good (eqb-false number accepted h)))

  unchanged_good : (after : List ℕ) → after ≡ area → Good area l → Good after l
  unchanged_good after e good = rw e good

  pub call_good : (call : Call) → length area ≡ area_bytes → Good area l → Next call
  unfolding entered
  call_good (Enrol place profile dials capacity) size good =
      by_answer (Enrol place profile dials capacity)
      (λ h. inr (enrol_good place profile dials capacity _ (act (Enrol place profile dials capacity) area).reply (effects.enrol place profile dials capacity area size h) good))
      (λ h. unchanged_good _ (effects.enrol_refused_lem place profile dials capacity area h) good)
  call_good (Submit place s) size good =
      by_answer (Submit place s)
      (λ h. inr (submit_good place s _ (act (Submit place s) area).reply (effects.submit place s area size h) good))
      (λ h.
      by_test (may_change (number_of (act (Submit place s) area).reply))
      (λ t. inr (hold_good _ (effects.hold place s area size h t) good))
      (λ t. unchanged_good _ (effects.submit_refused place s area t) good))
  call_good (Withdraw place day value) size good =
      by_answer (Withdraw place day value)
      (λ h. inr (withdraw_good place day value _ (act (Withdraw place day value) area).reply (effects.withdraw place day value area size h) good))
      (λ h. unchanged_good _ (effects.withdraw_refused_lem place day value area h) good)
  call_good (ReportCall place) size good =
      by_answer (ReportCall place)
      (λ h. unchanged_good _ (effects.report place area) good)
      (λ h. unchanged_good _ (effects.report place area) good)
  call_good (Fold place) size good =
      by_answer (Fold place)
      (λ h. inr (fold_good place _ (act (Fold place) area).reply (effects.fold place area size h) good))
      (λ h. unchanged_good _ (effects.fold_refused place area h) good)
  call_good (Trial place s) size good =
      by_answer (Trial place s)
      (λ h. unchanged_good _ (effects.trial place s area) good)
      (λ h. unchanged_good _ (effects.trial place s area) good)
