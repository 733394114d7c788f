-- Standing days rise, so the search that ends early finds what is there, and compares as many days as are said.
use Rattle.std.specs.Prelude.{None}
use mathlib.Core.Path.{◌≡◌, refl, ap, sym, ◌∙◌}
use mathlib.Core.Bool.{Bool, true, false, cond}
use mathlib.Core.List.{List, [], ◌∷◌}
use Prim.Native.Nat.{ℕ, suc, ◌+◌, ◌≤◌, ◌<◌}
use native.Mathlib.Omega.{arith}
use borrow.Author.Tests.{ltb-true, leb-true, leb-false, lt-ltb, le-ltb, le-leb, lt-leb, ne_eqb, eqb-false}
use mir.Val.{bool_byte}
use lib.Dec.{eqb, leb, ltb}
use lib.ListN.{length}
use Rattle.terms.specs.declared.entry.Entry.{Entry}
use Rattle.terms.specs.Entry.{is_standing, those, slot_at}
use Rattle.register.specs.Entries.{entry_start, entry_at}
use Rattle.journal.specs.Journal.{entries_to, standing, slot_if, on_day, day_of}
use Rattle.journal.specs.Sound.{any, days_rise, is_later}
use Rattle.journal.proofs.Bools.{both}
use Rattle.journal.proofs.Entries.{last_entry}
use Rattle.reads.specs.declared.search.Search.{Search}
use Rattle.reads.specs.Search.{not_found, ends_at, search_from, is_later_than, is_not_later, days_compared, search_answer}
use Rattle.reads.proofs.Days.{rise_before, none_on}

-- no day before one that is not later is later
none_later : (day : ℕ) (s : Entry) (ss : List Entry) → days_rise (s ∷ ss) ≡ true → s.day ≤ day → those (is_later_than day) (s ∷ ss) ≡ []
unfolding days_rise those is_later_than
none_later day s [] r l = rw (le-ltb day s.day l)
none_later day s (t ∷ ss) r l =
    let c = both (is_later s t) (days_rise (t ∷ ss)) r in
    let falls : t.day < s.day = ltb-true _ _ c.0 in
    rw (le-ltb day s.day l) (none_later day t ss c.1 (omega arith))

-- where the first day is not later, it alone is compared
one_compared : (day : ℕ) (s : Entry) (ss : List Entry) → days_rise (s ∷ ss) ≡ true → s.day ≤ day → days_compared day (s ∷ ss) ≡ 1
unfolding days_compared any is_not_later
one_compared day s ss r l = rw (none_later day s ss r l, le-leb s.day day l)

-- what a first day that is later adds
one_more_compared : (day : ℕ) (s : Entry) (ss : List Entry) → leb s.day day ≡ false → days_compared day (s ∷ ss) ≡ suc (days_compared day ss)
unfolding days_compared those any is_later_than is_not_later
one_more_compared day s ss h = rw (h, lt-ltb day s.day (leb-false s.day day h)) (omega arith)

-- the find where the first day is not later
found_first : (day : ℕ) (s : Entry) (ss : List Entry) → days_rise (s ∷ ss) ≡ true → s.day ≤ day → slot_if (eqb s.day day) s None ≡ on_day day (s ∷ ss)
unfolding on_day day_of slot_at
found_first day s ss r l = cases (eqb s.day day) refl where
  cases : (b : Bool) → eqb s.day day ≡ b → slot_if (eqb s.day day) s None ≡ slot_if (eqb s.day day) s (on_day day ss)
  cases true h = rw h
  cases false h =
      let other = eqb-false s.day day h in
      rw h (sym (rw h at (none_on day (s ∷ ss) r (omega (arith, other)))))

after_day : (day : ℕ) (s : Entry) (ss : List Entry) → leb s.day day ≡ false → on_day day ss ≡ on_day day (s ∷ ss)
unfolding on_day
after_day day s ss h =
    let later = leb-false s.day day h in
    rw (ne_eqb s.day day (λ e. omega arith))

module _ (day : ℕ) where
  abbrev answer : ℕ → List Entry → Search
  answer compared ss = record { found = on_day day ss; compared = compared + days_compared day ss }

  search_after : (compared : ℕ) (ss : List Entry) → days_rise ss ≡ true → search_from day compared ss ≡ answer compared ss
  unfolding search_from not_found ends_at on_day days_compared those any
  search_after compared [] r = ap (λ (k : ℕ). record { found = None; compared = k }) (omega arith)
  search_after compared (s ∷ ss) r = cases (leb s.day day) refl (search_after (compared + 1) ss (rise_before s ss r)) where
    cases : (b : Bool) → leb s.day day ≡ b → search_from day (compared + 1) ss ≡ answer (compared + 1) ss → cond (leb s.day day) (ends_at day compared s) (search_from day (compared + 1) ss) ≡ answer compared (s ∷ ss)
    cases true h rest =
        let l = leb-true s.day day h in
        rw (h, ← found_first day s ss r l, one_compared day s ss r l)
    cases false h rest =
        rw (h, rest, ← after_day day s ss h, one_more_compared day s ss h)
        (ap (λ (k : ℕ). record { found = on_day day ss; compared = k }) (omega arith))

  pub search_right : (ss : List Entry) → days_rise ss ≡ true → search_from day 0 ss ≡ search_answer day ss
  unfolding search_answer
  search_right ss r = search_after 0 ss r ∙ ap (λ (k : ℕ). record { found = on_day day ss; compared = k }) (omega arith)

  -- where none stands nothing is compared, and where the newest is earlier, that one alone
  pub none_standing : (ss : List Entry) → ss ≡ [] → not_found 0 ≡ search_answer day ss
  unfolding not_found search_answer on_day days_compared those any
  none_standing ss none = rw none

  pub newest_earlier : (ss : List Entry) {n : ℕ} → n ≡ length ss → days_rise ss ≡ true → day_of (slot_at ss 0) < day → not_found (bool_byte (ltb 0 n)) ≡ search_answer day ss
  unfolding search_from not_found ends_at day_of slot_at
  newest_earlier [] is r l = rw is (none_standing [] refl)
  newest_earlier (s ∷ ss) {n} is r l =
      let other : s.day ≡ day → ⊥ = λ e. omega arith in
      rw (lt-ltb 0 n (omega (arith, is)), ← search_right (s ∷ ss) r, le-leb s.day day (omega arith), ne_eqb s.day day other)

-- ---- one entry of a body, from the newest back
module _ (a : List ℕ) (day compared : ℕ) {m k : ℕ} (one : m ≡ suc k) where
  abbrev e : Entry
  e = entry_at a (entry_start k)

  pub passed_over : is_standing e ≡ false → search_from day compared (standing (entries_to m a)) ≡ search_from day compared (standing (entries_to k a))
  unfolding those
  passed_over h = rw (last_entry a one, h)

  module _ (stands : is_standing e ≡ true) where
    pub passed_later : day < e.day → search_from day compared (standing (entries_to m a)) ≡ search_from day (compared + 1) (standing (entries_to k a))
    unfolding those search_from
    passed_later l = rw (last_entry a one, stands, lt-leb e.day day l)

    pub ended : e.day ≤ day → search_from day compared (standing (entries_to m a)) ≡ ends_at day compared e
    unfolding those search_from
    ended l = rw (last_entry a one, stands, le-leb e.day day l)
