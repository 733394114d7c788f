-- The read that stands on a day.
use Rattle.std.specs.Prelude.{Option, Some, None}
use mathlib.Core.Path.{◌≡◌, refl, ap, ◌∙◌}
use mathlib.Core.Bool.{Bool, true, false, ◌&&◌, ◌||◌}
use mathlib.Core.List.{List, [], ◌∷◌}
use Prim.Native.Nat.{ℕ, ◌<◌}
use native.Mathlib.Omega.{arith}
use borrow.Author.Tests.{ltb-true, eqb-true, ne_eqb}
use lib.Dec.{eqb}
use lib.ListN.{length}
use Rattle.terms.specs.declared.entry.Entry.{Entry}
use Rattle.terms.specs.Entry.{slot_at}
use Rattle.journal.specs.Journal.{slot_if, on_day, day_of}
use Rattle.journal.specs.Sound.{any, has_read, days_rise, is_later}
use Rattle.journal.proofs.Bools.{both, or_none}
use Rattle.judge.proofs.Clashes.{none_stands}

-- ---- the reads before one
pub rise_before : (s : Entry) (ss : List Entry) → days_rise (s ∷ ss) ≡ true → days_rise ss ≡ true
unfolding days_rise
rise_before s [] r = refl
rise_before s (t ∷ ss) r = (both (is_later s t) (days_rise (t ∷ ss)) r).1

-- ---- a day after the last one
pub none_on : (day : ℕ) (ss : List Entry) → days_rise ss ≡ true → day_of (slot_at ss 0) < day → on_day day ss ≡ None
unfolding on_day days_rise day_of slot_at
none_on day [] r l = refl
none_on day (s ∷ []) r l =
    let other : s.day ≡ day → ⊥ = λ e. omega arith in
    rw (ne_eqb s.day day other)
none_on day (s ∷ t ∷ ss) r l =
    let c = both (is_later s t) (days_rise (t ∷ ss)) r in
    let falls : t.day < s.day = ltb-true _ _ c.0 in
    let other : s.day ≡ day → ⊥ = λ e. omega arith in
    rw (ne_eqb s.day day other) (none_on day (t ∷ ss) c.1 (omega arith))

-- the last standing read alone is of its day
none_before : (day value : ℕ) (s : Entry) (ss : List Entry) → days_rise (s ∷ ss) ≡ true → s.day ≡ day → any (has_read day value) ss ≡ false
unfolding days_rise any day_of slot_at
none_before day value s [] r e = refl
none_before day value s (t ∷ ss) r e =
    let c = both (is_later s t) (days_rise (t ∷ ss)) r in
    let falls : t.day < s.day = ltb-true _ _ c.0 in
    none_stands day value (t ∷ ss) c.1 (omega arith)

-- ---- one read alone has none before it
pub one_alone : (ss : List Entry) → length ss < 2 → slot_at ss 1 ≡ None
unfolding slot_at
one_alone [] l = refl
one_alone (s ∷ []) l = refl
one_alone (s ∷ t ∷ ss) l = absurd (omega arith)

-- ---- a day and a value
abbrev has_value : ℕ → Option Entry → Bool
has_value value (Some s) = eqb s.value value
has_value value None = false

module _ (day value : ℕ) where
  value_on : (ss : List Entry) → days_rise ss ≡ true → has_value value (on_day day ss) ≡ any (has_read day value) ss
  unfolding on_day any has_read
  value_on [] r = refl
  value_on (s ∷ ss) r = cases (eqb s.day day) refl (value_on ss (rise_before s ss r)) where
    cases : (b : Bool) → eqb s.day day ≡ b → has_value value (on_day day ss) ≡ any (has_read day value) ss → has_value value (slot_if (eqb s.day day) s (on_day day ss)) ≡ (eqb s.day day && eqb s.value value) || any (has_read day value) ss
    cases true h rest = rw (h, none_before day value s ss r (eqb-true s.day day h), or_none)
    cases false h rest = rw h rest

  pub read_on_day : (ss : List Entry) {s : Entry} → days_rise ss ≡ true → Some s ≡ on_day day ss → eqb s.value value ≡ any (has_read day value) ss
  read_on_day ss r h = ap (has_value value) h ∙ value_on ss r

  pub none_on_day : (ss : List Entry) → days_rise ss ≡ true → None ≡ on_day day ss → false ≡ any (has_read day value) ss
  none_on_day ss r h = ap (has_value value) h ∙ value_on ss r
