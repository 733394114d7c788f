-- A read that an accepted withdrawal named is kept out of its meter's area: its entry is there, or it is no later than the oldest kept read.
use mathlib.Core.Path.{◌≡◌, refl, sym, ap, ap₂, ◌∙◌}
use mathlib.Core.Logic.{inl, inr, ⊎_elim}
use mathlib.Core.Bool.{true, false, not, cond}
use mathlib.Core.List.{List, [], ◌∷◌, ◌++◌}
use Prim.Native.Nat.{ℕ, ◌≤◌, ◌<◌}
use native.Mathlib.Omega.{arith}
use borrow.Author.Tests.{eq-eqb, not-true}
use Rattle.terms.specs.declared.entry.Entry.{Entry}
use Rattle.terms.specs.declared.submission.Submission.{Submission}
use Rattle.terms.specs.Rule.{first_broken}
use Rattle.register.specs.Area.{areas_in, area_of}
use Rattle.journal.specs.Journal.{journal_of}
use Rattle.journal.specs.Sound.{any, has_read}
use Rattle.calls.specs.declared.call.Call.{Call}
use Rattle.calls.specs.Checks.{is_withdrawn_read, submit_checks}
use Rattle.calls.specs.Play.{exchanges, register_after, zero_register}
use Rattle.calls.specs.Ledger.{Named, named, Ledger, empty_ledger, ledger_of, is_same_read, is_among, are_none_of}
use Rattle.calls.specs.DemandThree.{names_of}
use Rattle.calls.specs.FoldKeeps.{answered, is_kept_out, is_wrong_by_itself, is_wrong_number, WithdrawnStayOut}
use Rattle.calls.proofs.Bools.{both, together, left_or, right_or, either_of, by_test, apart}
use Rattle.calls.proofs.Names.{read_is, same_is}
use Rattle.calls.proofs.Says.{gone_to}
use Rattle.calls.proofs.Effects.{meter_head, standing_reads}
use Rattle.calls.proofs.Frame.{Near, near_all}
use Rattle.calls.proofs.Known.{local, effects}
use Rattle.calls.proofs.Invariant.{Live}
use Rattle.calls.proofs.Chains.{run_whole, run_good, zero_whole, start_good}
use Rattle.calls.proofs.Out.{Gone, Out, is_dated_lem, wrong_number, out_number}
use Rattle.calls.proofs.StaysOut.{answers}

-- ---- a standing read is among the names of those that stand
stands_named : (d v : ℕ) (ss : List Entry) → any (has_read d v) ss ≡ true → is_among (named d v) (names_of ss) ≡ true
unfolding any is_among is_same_read names_of
stands_named d v [] h = absurd (apart h refl)
stands_named d v (e ∷ ss) h =
    either_of (has_read d v e) (any (has_read d v) ss) h
    (λ here. let r = read_is d v e here in left_or _ (together (eq-eqb d e.day (sym r.0)) (eq-eqb v e.value (sym r.1))))
    (λ there. right_or (is_same_read (named d v) (named e.day e.value)) (stands_named d v ss there))

-- ---- a read is not both among some and among others that are none of them
among_more : (r : Named) (rs more : List Named) → is_among r rs ≡ true → is_among r (rs ++ more) ≡ true
unfolding is_among
among_more r [] more h = absurd (apart h refl)
among_more r (x ∷ rs) more h =
    either_of (is_same_read r x) (is_among r rs) h
    (λ here. left_or _ here)
    (λ there. right_or (is_same_read r x) (among_more r rs more there))

same_among : (r x : Named) (rs : List Named) → r.day ≡ x.day → r.value ≡ x.value → is_among r rs ≡ is_among x rs
same_among r x rs d v = ap₂ (λ (day value : ℕ). is_among (named day value) rs) d v

not_both : (r : Named) (rs others : List Named) → are_none_of rs others ≡ true → is_among r rs ≡ true → is_among r others ≡ true → ⊥
unfolding are_none_of is_among
not_both r [] others none h o = apart h refl
not_both r (x ∷ rs) others none h o =
    let n = both (not (is_among x others)) (are_none_of rs others) none in
    either_of (is_same_read r x) (is_among r rs) h
    (λ here.
    let same = same_is r x here in
    apart (sym (same_among r x others same.0 same.1) ∙ o) (not-true _ n.0))
    (λ there. not_both r rs others n.1 there o)

-- ---- a withdrawn read, sent to an area of which the ledger speaks
module _ (s : Submission) (a : List ℕ) (l : Ledger) (g : Live a l) (was : is_among (named s.day s.value) l.withdrawn ≡ true) where
  abbrev read : Named
  read = named s.day s.value

  none_stands : any (has_read s.day s.value) (standing_reads a) ≡ false
  none_stands =
      let y = g.says in
      by_test (any (has_read s.day s.value) (standing_reads a))
      (λ h.
      let stands : is_among read l.standing ≡ true = ap (is_among read) (sym y.standing_is) ∙ among_more read (names_of (standing_reads a)) y.older (stands_named s.day s.value (standing_reads a) h) in
      absurd (not_both read l.standing l.withdrawn y.apart stands was))
      (λ h. h)

  gone_from : 0 < s.day → s.day ≤ gone_to (meter_head a) (standing_reads a) → Gone s (meter_head a) (standing_reads a)
  unfolding gone_to
  gone_from dated gone =
      by_test (meter_head a).carried
      (λ t. record { none = none_stands; carried = t; early = rw t at gone })
      (λ t. absurd (let none : s.day ≤ 0 = rw t at gone in let f : ⊥ = omega arith in f))

  is_out : is_wrong_by_itself (meter_head a) s ≡ false → Out s a
  unfolding is_withdrawn_read
  is_out right =
      record {
        sound = g.sound;
        right = right;
        entry =
            ⊎_elim
            (λ there. inl there)
            (λ gone. inr (gone_from (is_dated_lem (meter_head a) s right) gone))
            (g.says.withdrawn_are s.day s.value was);
      }

  -- what answers it
  abbrev Refuses : ℕ → Type 0
  Refuses number = cond (is_wrong_by_itself (meter_head a) s) (is_wrong_number number) (is_kept_out number) ≡ true

  refuses : Refuses (first_broken (submit_checks s a))
  refuses =
      by_test (is_wrong_by_itself (meter_head a) s)
      (λ h. rw h (wrong_number s a g.sound h))
      (λ h. rw h (out_number s a (is_out h)))

-- ---- after every list of calls
module _ (meter : ℕ) (here : meter < areas_in zero_register) (calls : List Call) (s : Submission) where
  abbrev register : List ℕ
  register = register_after calls zero_register

  near : Near meter
  near = near_all meter zero_register zero_whole here

  stays_out : is_among (named s.day s.value) (ledger_of meter (exchanges calls zero_register)).withdrawn ≡ true → cond (is_wrong_by_itself (journal_of (area_of meter register)).head s) (is_wrong_number (answered meter s register)) (is_kept_out (answered meter s register)) ≡ true
  unfolding ledger_of is_among
  stays_out was =
      let whole = run_whole local calls zero_register zero_whole in
      ⊎_elim
      (λ f. absurd (apart (ap (is_among (named s.day s.value)) (sym f.withdrawn_is) ∙ was) refl))
      (λ g. rw (answers meter s register whole (near register whole)) (refuses s (area_of meter register) _ g was))
      (run_good local effects meter near calls zero_register zero_whole empty_ledger (start_good meter))

pub withdrawn_stay_out : WithdrawnStayOut
unfolding WithdrawnStayOut
withdrawn_stay_out = stays_out
