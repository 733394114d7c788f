-- A read that is kept out of an area is kept out after every call: its entry stays until a fold lets it go, and then the oldest kept read is
-- no earlier, and no such entry comes back.
use mathlib.Core.Path.{◌≡◌, refl, sym, ap, ap₂, ◌∙◌}
use mathlib.Core.Logic.{inl, inr, ⊎_elim}
use mathlib.Core.Bool.{Bool, true, false, and-false}
use mathlib.Core.List.{List, [], ◌∷◌}
use Prim.Native.Nat.{ℕ, ◌≤◌, ◌<◌}
use native.Mathlib.Omega.{arith}
use borrow.Author.Tests.{eqb-true, eqb-false, ne_eqb, not-true}
use lib.Dec.{eqb, ltb}
use lib.ListN.{length}
use Rattle.terms.specs.declared.entry.Entry.{Entry}
use Rattle.terms.specs.declared.submission.Submission.{Submission}
use Rattle.terms.specs.Number.{accepted}
use Rattle.register.specs.declared.head.Head.{Head}
use Rattle.register.specs.Area.{area_bytes}
use Rattle.journal.specs.Journal.{journal_of, oldest_of, day_of}
use Rattle.journal.specs.Sound.{every, any, has_read, days_rise, is_apart_from, are_apart}
use Rattle.calls.specs.declared.call.Call.{Call}
use Rattle.calls.specs.declared.call.Call.TheVariants.{Enrol, Submit, Withdraw, Report as ReportCall, Fold, Trial}
use Rattle.calls.specs.declared.call.Reply.{Reply}
use Rattle.calls.specs.Checks.{is_withdrawn_read}
use Rattle.calls.specs.Calls.{act, entry_for}
use Rattle.calls.specs.Fold.{kept_from, head_after}
use Rattle.calls.specs.Play.{number_of, may_change}
use Rattle.calls.specs.FoldKeeps.{is_wrong_by_itself}
use Rattle.calls.proofs.Bools.{both, or_false, either_of, by_test, apart}
use Rattle.journal.proofs.Bools.{neither}
use Rattle.calls.proofs.Names.{read_is}
use Rattle.calls.proofs.Clauses.{clauses_of}
use Rattle.calls.proofs.Shape.{sounds}
use Rattle.calls.proofs.Folding.{third_rise}
use Rattle.calls.proofs.Folded.{days_apart}
use Rattle.calls.proofs.Effects.{meter_head, standing_reads, withdrawn_reads, Held, Submitted, Withdrew, Folded}
use Rattle.calls.proofs.Known.{effects}
use Rattle.calls.proofs.Out.{Gone, Out, is_dated_lem}

-- ---- no standing read has the day and value of a withdrawn one
none_stands : (d v : ℕ) (ss ws : List Entry) → are_apart ss ws ≡ true → any (has_read d v) ws ≡ true → any (has_read d v) ss ≡ false
unfolding are_apart every any
none_stands d v ss [] h t = absurd (apart t refl)
none_stands d v ss (w ∷ ws) h t =
    let h' = both (is_apart_from ss w) (every (is_apart_from ss) ws) h in
    either_of (has_read d v w) (any (has_read d v) ws) t
    (λ here.
    let r = read_is d v w here in
    ap₂ (λ (x y : ℕ). any (has_read x y) ss) (sym r.0) (sym r.1) ∙ not-true _ h'.0)
    (λ there. none_stands d v ss ws h'.1 there)

-- a test that none of some reads passes, none of the first three does
none_of_three : (test : Entry → Bool) (a b c : Entry) (rest : List Entry) → any test (a ∷ b ∷ c ∷ rest) ≡ false → any test (a ∷ b ∷ c ∷ []) ≡ false
unfolding any
none_of_three test a b c rest h =
    let h₁ = neither (test a) _ h in
    let h₂ = neither (test b) _ h₁.1 in
    let h₃ = neither (test c) _ h₂.1 in
    or_false h₁.0 (or_false h₂.0 (or_false h₃.0 refl))

-- a read is kept out of an area as it was of another, by its entry only if it was so before
pub record Still (s : Submission) (area after : List ℕ) : Type 0 where
  pub out : Out s after
  pub gone : is_withdrawn_read s (journal_of area).entries ≡ false → is_withdrawn_read s (journal_of after).entries ≡ false

pub still_same : (s : Submission) (area after : List ℕ) → after ≡ area → Out s area → Still s area after
still_same s area after e o = record { out = rw e o; gone = λ w. rw e w }

module _ (s : Submission) (area : List ℕ) (o : Out s area) where
  abbrev d : ℕ
  d = s.day

  abbrev v : ℕ
  v = s.value

  dated : 0 < d
  dated = is_dated_lem (meter_head area) s o.right

  apart_reads : are_apart (standing_reads area) (withdrawn_reads area) ≡ true
  unfolding journal_of
  apart_reads = (clauses_of _ _ (sounds area o.sound).sound).apart

  right_still : (after : List ℕ) → meter_head after ≡ meter_head area → is_wrong_by_itself (meter_head after) s ≡ false
  right_still after same = ap (λ (h : Head). is_wrong_by_itself h s) same ∙ o.right

  -- ---- a read is held
  hold_out : (after : List ℕ) → Held area after → Still s area after
  unfolding is_withdrawn_read
  hold_out after h =
      record {
        out = record { sound = h.sound; right = right_still after h.same_head; entry = rw (h.same_head, h.same_standing, h.same_withdrawn) o.entry };
        gone = λ w. rw h.same_withdrawn w;
      }

  -- ---- a read more
  other_day : (e : Entry) → (e.day ≡ d → ⊥) → has_read d v e ≡ false
  unfolding has_read
  other_day e ne = rw (ne_eqb e.day d ne)

  gone_more : (head : Head) (e : Entry) (ss : List Entry) → days_rise ss ≡ true → ((r : Entry) (rs : List Entry) → ss ≡ r ∷ rs → r.day < e.day) → Gone s head ss → Gone s head (e ∷ ss)
  unfolding any oldest_of day_of
  gone_more head e [] rise later g = absurd (let early : d ≤ 0 = g.early in let f : ⊥ = omega (arith, dated) in f)
  gone_more head e (r ∷ rs) rise later g =
      record {
        none = or_false (other_day e (λ q. omega (arith, q, g.early, later r rs refl, days_apart r rs rise))) g.none;
        carried = g.carried;
        early = g.early;
      }

  submit_out : (u : Submission) (after : List ℕ) (reply : Reply) → Submitted u area after reply → Still s area after
  unfolding is_withdrawn_read entry_for
  submit_out u after reply m =
      record {
        out =
            record {
              sound = m.sound;
              right = right_still after m.same_head;
              entry =
                  rw (m.same_head, m.one_more, m.same_withdrawn)
                  (⊎_elim inl (λ g. inr (gone_more (meter_head area) _ (standing_reads area) (effects.rise area o.sound) m.later g)) o.entry);
            };
        gone = λ w. rw m.same_withdrawn w;
      }

  -- ---- a read less
  gone_less : (head : Head) (e : Entry) (ss : List Entry) → (ss ≡ [] → head.carried ≡ false) → Gone s head (e ∷ ss) → Gone s head ss
  unfolding any oldest_of
  gone_less head e [] bare g = absurd (apart g.carried (bare refl))
  gone_less head e (r ∷ rs) bare g = record { none = (neither (has_read d v e) _ g.none).1; carried = g.carried; early = g.early }

  withdraw_out : (day value : ℕ) (after : List ℕ) (reply : Reply) → Withdrew day value area after reply → Still s area after
  unfolding is_withdrawn_read any
  withdraw_out day value after reply w =
      let bare : standing_reads after ≡ [] → (meter_head area).carried ≡ false = λ none. ap (λ (h : Head). h.carried) (sym w.same_head) ∙ effects.carried after w.sound none in
      let last : any (has_read d v) (standing_reads area) ≡ false → has_read d v w.last ≡ false = λ n. (neither (has_read d v w.last) _ (rw w.one_less at n)).0 in
      record {
        out =
            record {
              sound = w.sound;
              right = right_still after w.same_head;
              entry =
                  rw w.same_head
                  (⊎_elim (λ t. inl (w.keeps d v t)) (λ g. inr (gone_less (meter_head area) w.last (standing_reads after) bare (rw w.one_less at g))) o.entry);
            };
        gone = λ n. w.only d v ∙ or_false (last (⊎_elim (λ t. absurd (apart t n)) (λ g. g.none) o.entry)) n;
      }

  -- ---- a fold
  pub fold_out : (after : List ℕ) → Folded area after → Out s after
  unfolding is_withdrawn_read head_after is_wrong_by_itself oldest_of day_of
  fold_out after f =
      let four = f.stood in
      let test = has_read d v in
      let rise : days_rise (four.newest ∷ four.second ∷ four.third ∷ four.fourth ∷ four.older) ≡ true = rw four.are at (effects.rise area o.sound) in
      let third = days_apart four.third (four.fourth ∷ four.older) (third_rise four.newest four.second four.third (four.fourth ∷ four.older) rise) in
      let three : any test (standing_reads area) ≡ false → any test (four.newest ∷ four.second ∷ four.third ∷ []) ≡ false = λ n. none_of_three test four.newest four.second four.third (four.fourth ∷ four.older) (rw four.are at n) in
      record {
        sound = f.sound;
        right = rw f.head_is o.right;
        entry =
            rw (f.head_is, f.stand)
            (⊎_elim
            (λ t.
            ⊎_elim inl
            (λ early. inr (record { none = three (none_stands d v (standing_reads area) (withdrawn_reads area) apart_reads t); carried = refl; early = early }))
            (f.gone d v t))
            (λ g.
            let early : d ≤ day_of (oldest_of (four.newest ∷ four.second ∷ four.third ∷ four.fourth ∷ four.older)) = rw four.are at g.early in
            inr (record { none = three g.none; carried = refl; early = omega (arith, early, third) }))
            o.entry);
      }

  fold_still : (after : List ℕ) → Folded area after → Still s area after
  unfolding is_withdrawn_read
  fold_still after f = record { out = fold_out after f; gone = λ n. f.left d v ∙ rw n (and-false (ltb (kept_from (journal_of area).entries) d)) }

  -- ---- any call
  by_answer : (call : Call) →
      let after = act call area in
      (number_of after.reply ≡ accepted → Still s area after.area)
      → ((number_of after.reply ≡ accepted → ⊥) → Still s area after.area)
      → Still s area after.area
  by_answer call yes_still no_still =
      let number = number_of (act call area).reply in
      by_test (eqb number accepted) (λ h. yes_still (eqb-true number accepted h)) (λ h. no_still (eqb-false number accepted h))

  same : {after : List ℕ} → after ≡ area → Still s area after
  same {after} e = still_same s area after e o

  pub call_out : (call : Call) → length area ≡ area_bytes → Still s area (act call area).area
  call_out (Enrol place profile dials capacity) size =
      by_answer (Enrol place profile dials capacity)
      (λ h. absurd (effects.apart area (effects.enrol place profile dials capacity area size h).zero o.sound))
      (λ h. same (effects.enrol_refused_lem place profile dials capacity area h))
  call_out (Submit place u) size =
      by_answer (Submit place u)
      (λ h. submit_out u _ (act (Submit place u) area).reply (effects.submit place u area size h))
      (λ h.
      by_test (may_change (number_of (act (Submit place u) area).reply))
      (λ t. hold_out _ (effects.hold place u area size h t))
      (λ t. same (effects.submit_refused place u area t)))
  call_out (Withdraw place day value) size =
      by_answer (Withdraw place day value)
      (λ h. withdraw_out day value _ (act (Withdraw place day value) area).reply (effects.withdraw place day value area size h))
      (λ h. same (effects.withdraw_refused_lem place day value area h))
  call_out (ReportCall place) size = same (effects.report place area)
  call_out (Fold place) size =
      by_answer (Fold place)
      (λ h. fold_still _ (effects.fold place area size h))
      (λ h. same (effects.fold_refused place area h))
  call_out (Trial place u) size = same (effects.trial place u area)
