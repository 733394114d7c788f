-- The numbers that an accepted call makes of a journal's tally are those of the journal after it: enrolled, with a read more, and with a read
-- less.
use mathlib.Core.Path.{◌≡◌, refl, sym, ap, ◌∙◌}
use mathlib.Core.Bool.{cond}
use mathlib.Core.List.{List, [], ◌∷◌}
use Prim.Native.Nat.{ℕ, ◌*◌}
use lib.Dec.{eqb}
use lib.IntN.{ℤ, pos, neg_ℤ, ◌+ℤ◌, ◌-ℤ◌, +ℤ_assoc, +ℤ_idl, +ℤ_invr, +ℤ-neg_ℤ_cancel, -ℤ-+ℤ_cancel, neg_ℤ-+ℤ, neg_ℤ-neg_ℤ}
use Rattle.arithmetic.specs.Powers.{ten_to}
use Rattle.arithmetic.specs.Advance.{advance_of}
use Rattle.terms.specs.declared.entry.Entry.{Entry}
use Rattle.terms.specs.Entry.{slot_at}
use Rattle.terms.specs.Number.{accepted}
use Rattle.rules.specs.Volume.{advance_over}
use Rattle.register.specs.declared.head.Head.{Head}
use Rattle.journal.specs.Total.{standing_in, flagged_in}
use Rattle.calls.proofs.Totals.{IsFlag, Bare, flagged_in_lem}
use Rattle.tally.specs.declared.tally.Tally.{Tally}
use Rattle.tally.specs.Tally.{tally_number}
use Rattle.tally.specs.Change.{Wanted, tally_for, may_be, made_to, enrolled, with_read, without_read, last_without}
use Rattle.tally.proofs.Standing.{stand_none, stand_one, stand_more, stand_two}
use Rattle.tally.proofs.FirstWith.{first_with}
use Rattle.tally.proofs.FirstWithout.{first_without}
use Rattle.tally.proofs.OfJournal.{last_value, tally_of, none_first, none_flagged}

-- none of the numbers is below 0, and they are those of a tally
pub record Wants (w : Wanted) (next : Tally) : Type 0 where
  pub dials_are : w.dials ≡ next.dials
  pub standing_is : w.standing ≡ pos next.standing
  pub flagged_is : w.flagged ≡ pos next.flagged
  pub first_is : w.first ≡ next.first
  pub last_is : w.last ≡ pos next.last

-- a change to a tally that may be kept is made
pub made : (w : Wanted) (next t : Tally) → Wants w next → tally_number next ≡ accepted → made_to w t ≡ next
unfolding made_to may_be tally_for
made w next t wants number =
    rw (wants.dials_are, wants.standing_is, wants.flagged_is, wants.first_is, wants.last_is, number)

-- ---- an enrolment: nothing stands yet
pub wants_enrolled : (head : Head) → Bare head → Wants (enrolled head.dials) (tally_of head [])
unfolding enrolled last_value
wants_enrolled head bare =
    record {
      dials_are = refl;
      standing_is = ap pos (sym (stand_none head bare));
      flagged_is = ap pos (sym (none_flagged head bare));
      first_is = sym (none_first head bare);
      last_is = refl;
    }

-- ---- a read more
module _ (head : Head) (e : Entry) where
  pub wants_more : IsFlag e.flag → (ss : List Entry) → (ss ≡ [] → Bare head) → Wants (with_read e.value e.flag (tally_of head ss)) (tally_of head (e ∷ ss))
  unfolding with_read last_value
  wants_more flag ss bare =
      record {
        dials_are = refl;
        standing_is = ap pos (sym (stand_more head e ss));
        flagged_is = ap pos (sym (flagged_in_lem head e ss flag));
        first_is = first_with head e ss bare;
        last_is = refl;
      }

-- ---- a read less
-- a value less its advance, with the turn put back, is the value before it: e − (e − s + f) + f = s
back : (e s f : ℤ) → e +ℤ neg_ℤ (e -ℤ s +ℤ f) +ℤ f ≡ s
back e s f =
    ap (λ (z : ℤ). e +ℤ z +ℤ f) (neg_ℤ-+ℤ (e -ℤ s) f)
    ∙ ap (λ (z : ℤ). z +ℤ f) (sym (+ℤ_assoc e (neg_ℤ (e -ℤ s)) (neg_ℤ f)))
    ∙ -ℤ-+ℤ_cancel (e -ℤ (e -ℤ s)) f
    ∙ ap (λ (z : ℤ). e +ℤ z) (neg_ℤ-+ℤ e (neg_ℤ s) ∙ ap (λ (z : ℤ). neg_ℤ e +ℤ z) (neg_ℤ-neg_ℤ s))
    ∙ sym (+ℤ_assoc e (neg_ℤ e) s)
    ∙ ap (λ (z : ℤ). z +ℤ s) (+ℤ_invr e)
    ∙ +ℤ_idl s

module _ (head : Head) (e : Entry) where
  -- what the withdrawal answers
  abbrev answered : List Entry → ℤ
  answered ss = neg_ℤ (advance_over head.dials e.value e.flag (slot_at ss 0))

  last_without_lem : (ss : List Entry) → (ss ≡ [] → Bare head) → cond (eqb (standing_in head (e ∷ ss)) 1) (pos 0) (last_without e.flag (answered ss) (tally_of head (e ∷ ss))) ≡ pos (last_value ss)
  unfolding last_without last_value advance_over advance_of slot_at
  last_without_lem [] bare = rw (stand_one head (bare refl) e)
  last_without_lem (s ∷ ss) bare = rw (stand_two head e s ss) (back (pos e.value) (pos s.value) (pos (e.flag * ten_to head.dials)))

  pub wants_less : IsFlag e.flag → (ss : List Entry) → (ss ≡ [] → Bare head) → Wants (without_read e.flag (answered ss) (tally_of head (e ∷ ss))) (tally_of head ss)
  unfolding without_read
  wants_less flag ss bare =
      record {
        dials_are = refl;
        standing_is = ap (λ (k : ℕ). pos k -ℤ pos 1) (stand_more head e ss) ∙ +ℤ-neg_ℤ_cancel (pos (standing_in head ss)) (pos 1);
        flagged_is = ap (λ (k : ℕ). pos k -ℤ pos e.flag) (flagged_in_lem head e ss flag) ∙ +ℤ-neg_ℤ_cancel (pos (flagged_in head ss)) (pos e.flag);
        first_is = first_without head e ss bare;
        last_is = last_without_lem ss bare;
      }
