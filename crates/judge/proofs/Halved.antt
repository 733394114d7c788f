-- The standing entries by their places, in their order: what halving finds among them, and what their marks rule out.
use mathlib.Core.Path.{◌≡◌, refl, ap, ◌∙◌}
use mathlib.Core.Bool.{Bool, true, false, not, ◌&&◌, and-false}
use mathlib.Core.List.{List, [], ◌∷◌, map}
use Prim.Native.Nat.{ℕ, zero, suc, ◌+◌, ◌-◌, ◌≤◌, ◌<◌}
use native.Mathlib.Numerals.{add-one}
use native.Mathlib.Omega.{arith}
use borrow.Author.Tests.{ltb-true, ltb-false, eqb-true, eqb-false, ne_eqb}
use lib.Dec.{eqb, ltb}
use lib.ListN.{length, get_or, set, take}
use Rattle.std.specs.Prelude.{reverse}
use Rattle.std.specs.List.Sorted.{IsPartitionedBy, IsPartitionPoint}
use Rattle.std.proofs.Math.Seq.{take_all, take-suc, take-suc-set}
use Rattle.std.proofs.lemmas.List.{reverse-append, map-append}
use Rattle.std.proofs.lemmas.List.Sums.{fold-append}
use Rattle.std.proofs.lemmas.List.Sorted.{IsNonDecreasingBy-from_default, IsPartitionedBy-ltb}
use Rattle.terms.specs.declared.entry.Entry.{Entry}
use Rattle.terms.specs.Entry.{is_withdrawn, keep_if, slot_at}
use Rattle.register.specs.Entries.{entry_start, entry_at}
use Rattle.journal.specs.Journal.{entries_to, withdrawn, day_of}
use Rattle.journal.specs.Sound.{any, every, has_read, are_apart, days_rise, is_later}
use Rattle.judge.specs.Inner.Halving.{value_marks}
use Rattle.judge.specs.Inner.Marks.{is_marked, mark_on}
use Rattle.journal.proofs.Bools.{both, or_none}
use Rattle.journal.proofs.Entries.{those_more}
use Rattle.judge.proofs.Bits.{unmarked}
use Rattle.judge.proofs.Clashes.{none_stands}

last : (n : ℕ) → suc n - 1 ≡ n
last n = omega arith

module _ (read : ℕ → Entry) where
  -- one more noted after n
  pub noted : (room : List ℕ) (n k : ℕ) → n < length room → reverse (map read (take (n + 1) (set room n k))) ≡ read k ∷ reverse (map read (take n room))
  noted room n k h = rw (add-one n, take-suc-set room n k h, map-append) (reverse-append (map read (take n room)) (read k ∷ []))

module _ (read : ℕ → Entry) (places : List ℕ) where
  abbrev at : ℕ → Entry
  at i = read (get_or places i 0)

  -- those at the first n places, the last first
  back : ℕ → List Entry
  back zero = []
  back (suc n) = at n ∷ back n

  back_is : (n : ℕ) → n ≤ length places → back n ≡ reverse (map read (take n places))
  unfolding back
  back_is zero h = refl
  back_is (suc n) h =
      rw (take-suc places n 0 (omega arith), map-append, reverse-append (map read (take n places)) (at n ∷ []), back_is n (omega arith))

  back_all : back (length places) ≡ reverse (map read places)
  back_all = back_is (length places) (omega arith) ∙ ap (λ ps. reverse (map read ps)) (take_all (length places) places (omega arith))

  back_rise : (n : ℕ) → days_rise (back (suc n)) ≡ true → days_rise (back n) ≡ true
  unfolding back days_rise
  back_rise zero r = refl
  back_rise (suc n) r = (both (is_later (at (suc n)) (at n)) _ r).1

  rise_to : (n j : ℕ) → j ≤ n → days_rise (back n) ≡ true → days_rise (back j) ≡ true
  rise_to zero j h r =
      let e : j ≡ 0 = omega arith in
      rw e r
  rise_to (suc n) j h r = cases (λ less. rise_to n j less (back_rise n r)) (eqb j (suc n)) refl where
    cases : (j ≤ n → days_rise (back j) ≡ true) → (b : Bool) → eqb j (suc n) ≡ b → days_rise (back j) ≡ true
    cases rest true e = rw (eqb-true j (suc n) e) r
    cases rest false e =
        let other : j ≡ suc n → ⊥ = eqb-false j (suc n) e in
        rest (omega arith)

  -- an earlier one has an earlier day
  earlier : (n i : ℕ) → days_rise (back (suc n)) ≡ true → i < n → (at i).day < (at n).day
  unfolding back days_rise
  earlier zero i r h = absurd (omega arith)
  earlier (suc n) i r h =
      let c = both (is_later (at (suc n)) (at n)) _ r in
      cases (ltb-true _ _ c.0) (earlier n i c.1) (eqb i n) refl where
        cases : (at n).day < (at (suc n)).day → (i < n → (at i).day < (at n).day) → (b : Bool) → eqb i n ≡ b → (at i).day < (at (suc n)).day
        cases next rest true e = rw (eqb-true i n e) next
        cases next rest false e =
            let other : i ≡ n → ⊥ = eqb-false i n e in
            omega (arith, rest (omega arith))

  module _ (rises : days_rise (reverse (map read places)) ≡ true) where
    rises_to : (j : ℕ) → j ≤ length places → days_rise (back j) ≡ true
    rises_to j h = rise_to (length places) j h (rw back_all rises)

    days_ordered : (i j : ℕ) → i ≤ j → j < length places → (at i).day ≤ (at j).day
    days_ordered i j h l = cases (eqb i j) refl where
      cases : (b : Bool) → eqb i j ≡ b → (at i).day ≤ (at j).day
      cases true e = rw (eqb-true i j e) (omega arith)
      cases false e =
          let other : i ≡ j → ⊥ = eqb-false i j e in
          omega (arith, earlier j i (rises_to (suc j) (omega arith)) (omega arith))

    pub halved : (day : ℕ) → IsPartitionedBy (λ k. ltb (read k).day day) places
    halved day = IsPartitionedBy-ltb (λ k. (read k).day) places day (IsNonDecreasingBy-from_default (λ k. (read k).day) places 0 days_ordered)

    module _ (day value : ℕ) where
      -- the day is after the first n
      none_before : (n : ℕ) → n ≤ length places → (0 < n → (at (n - 1)).day < day) → any (has_read day value) (back n) ≡ false
      unfolding back any day_of slot_at
      none_before zero l h = refl
      none_before (suc n) l h = none_stands day value (back (suc n)) (rises_to (suc n) l) (rw (last n) at (h (omega arith)))

      of_another_day : (e : Entry) → (e.day ≡ day → ⊥) → has_read day value e ≡ false
      unfolding has_read
      of_another_day e h = rw (ne_eqb e.day day h)

      -- the first one from the day on is the only one that can be of that day
      one_from : (n low : ℕ) → n ≤ length places → low < n → (0 < low → (at (low - 1)).day < day) → day ≤ (at low).day → any (has_read day value) (back n) ≡ has_read day value (at low)
      unfolding back any
      one_from zero low l h b f = absurd (omega arith)
      one_from (suc n) low l h b f = cases (λ less. one_from n low (omega arith) less b f) (eqb low n) refl where
        cases : (low < n → any (has_read day value) (back n) ≡ has_read day value (at low)) → (b : Bool) → eqb low n ≡ b → any (has_read day value) (back (suc n)) ≡ has_read day value (at low)
        cases rest true e =
            let same : low ≡ n = eqb-true low n e in
            rw (same, none_before n (omega arith) (rw same at b), or_none)
        cases rest false e =
            let other : low ≡ n → ⊥ = eqb-false low n e in
            let less : low < n = omega arith in
            let later : (at n).day ≡ day → ⊥ = λ same. omega (arith, earlier n low (rises_to (suc n) l) less) in
            rw (of_another_day (at n) later) (rest less)

      -- where halving ends
      module _ {i : ℕ} (point : IsPartitionPoint (λ k. ltb (read k).day day ≡ true) (λ k. ltb (read k).day day ≡ false) places i) where
        before : 0 < i → (at (i - 1)).day < day
        before h = ltb-true _ _ (point.0 (i - 1) 0 (omega arith) (omega arith))

        pub none_found : length places ≤ i → i ≤ length places → any (has_read day value) (reverse (map read places)) ≡ false
        none_found h l =
            let e : i ≡ length places = omega arith in
            rw (← back_all) (none_before (length places) (omega arith) (rw e at before))

        pub one_found : i < length places → any (has_read day value) (reverse (map read places)) ≡ has_read day value (at i)
        one_found h = rw (← back_all) (one_from (length places) i (omega arith) h before (ltb-false _ _ (point.1 i 0 (omega arith) h)))

  -- a value that none of them marked
  unmarked_to : (day value n : ℕ) → n ≤ length places → is_marked (value_marks (map read (take n places))) value ≡ false → any (has_read day value) (back n) ≡ false
  unfolding back any has_read
  unmarked_to day value zero h u = refl
  unmarked_to day value (suc n) h u =
      let more = rw (take-suc places n 0 (omega arith), map-append, fold-append (λ (marks : ℕ) (s : Entry). mark_on marks s.value) 0 (map read (take n places)) (at n ∷ [])) at u in
      let free = unmarked (value_marks (map read (take n places))) (at n).value value more in
      rw (ne_eqb (at n).value value free.0, and-false) (unmarked_to day value n (omega arith) free.1)

  pub none_valued : (day value : ℕ) → is_marked (value_marks (map read places)) value ≡ false → any (has_read day value) (reverse (map read places)) ≡ false
  none_valued day value u =
      rw (← back_all) (unmarked_to day value (length places) (omega arith) (rw (take_all (length places) places (omega arith)) u))

-- ---- one withdrawn entry after the other
apart_kept : (b : Bool) (e : Entry) (ss ws : List Entry) → are_apart ss (keep_if b e ws) ≡ not (b && any (has_read e.day e.value) ss) && are_apart ss ws
unfolding are_apart every
apart_kept true e ss ws = refl
apart_kept false e ss ws = refl

module _ (ss : List Entry) (body : List ℕ) where
  apart_next : (k : ℕ) → are_apart ss (withdrawn (entries_to (k + 1) body)) ≡ not (is_withdrawn (entry_at body (entry_start k)) && any (has_read (entry_at body (entry_start k)).day (entry_at body (entry_start k)).value) ss) && are_apart ss (withdrawn (entries_to k body))
  apart_next k = rw (those_more k body is_withdrawn refl refl) (apart_kept (is_withdrawn (entry_at body (entry_start k))) (entry_at body (entry_start k)) ss (withdrawn (entries_to k body)))

  -- a clash stays one
  clash_after : (k n : ℕ) → are_apart ss (withdrawn (entries_to k body)) ≡ false → are_apart ss (withdrawn (entries_to (n + k) body)) ≡ false
  clash_after k zero h =
      let e : zero + k ≡ k = omega arith in
      rw e h
  clash_after k (suc n) h =
      let e : suc n + k ≡ n + k + 1 = omega arith in
      rw (e, apart_next (n + k), clash_after k n h, and-false)

  -- e is the entry after k others
  module _ (k : ℕ) {e : Entry} {clash : Bool} (read : e ≡ entry_at body (entry_start k)) (is : clash ≡ is_withdrawn e && any (has_read e.day e.value) ss) where
    next : are_apart ss (withdrawn (entries_to (k + 1) body)) ≡ not clash && are_apart ss (withdrawn (entries_to k body))
    next = rw (is, read) (apart_next k)

    pub apart_on : clash ≡ false → are_apart ss (withdrawn (entries_to k body)) ≡ true → are_apart ss (withdrawn (entries_to (k + 1) body)) ≡ true
    apart_on none old = rw (next, none, old)

    pub apart_ends : (m : ℕ) → k < m → clash ≡ true → are_apart ss (withdrawn (entries_to m body)) ≡ false
    apart_ends m h one =
        let e : m - (k + 1) + (k + 1) ≡ m = omega arith in
        rw e at (clash_after (k + 1) (m - (k + 1)) (rw (next, one)))
