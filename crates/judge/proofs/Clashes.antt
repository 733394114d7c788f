-- Standing reads apart from withdrawn ones: what one entry more adds, and which entries clash with none.
use mathlib.Core.Path.{◌≡◌, refl, sym, ◌∙◌}
use mathlib.Core.Bool.{Bool, true, false, not, ◌&&◌, ◌||◌}
use mathlib.Core.List.{List, [], ◌∷◌}
use Prim.Native.Nat.{ℕ, ◌<◌}
use native.Mathlib.Omega.{arith}
use borrow.Author.Tests.{ltb-true, eqb-true, eqb-false, eq-eqb, ne_eqb}
use lib.Dec.{eqb}
use Rattle.terms.specs.declared.entry.Entry.{Entry}
use Rattle.terms.specs.Entry.{kind_standing, kind_withdrawn, is_standing, is_withdrawn, keep_if, those, slot_at}
use Rattle.journal.specs.Journal.{standing, withdrawn, day_of}
use Rattle.journal.specs.Sound.{any, every, has_read, are_apart, days_rise, is_later}
use Rattle.judge.specs.Inner.Index.{clashes}
use Rattle.judge.specs.Inner.Run.{last_day}
use Rattle.journal.proofs.Bools.{false_is, both, or_none}

-- ---- one entry more
eqb_flip : (m n : ℕ) → eqb m n ≡ eqb n m
eqb_flip m n = flip (eqb m n) refl where
  flip : (b : Bool) → eqb m n ≡ b → eqb m n ≡ eqb n m
  flip true h = h ∙ sym (eq-eqb n m (sym (eqb-true m n h)))
  flip false h = h ∙ sym (ne_eqb n m (λ e. eqb-false m n h (sym e)))

read_flip : (e w : Entry) → has_read w.day w.value e ≡ has_read e.day e.value w
unfolding has_read
read_flip e w = rw (eqb_flip e.day w.day, eqb_flip e.value w.value)

swap : (x y n a : Bool) → not (x || y) && (not n && a) ≡ not (x || n) && (not y && a)
swap true y n a = refl
swap false true true a = refl
swap false true false a = refl
swap false false n a = refl

-- a standing read more
apart_standing : (e : Entry) (ss ws : List Entry) → are_apart (e ∷ ss) ws ≡ not (any (has_read e.day e.value) ws) && are_apart ss ws
unfolding are_apart every any
apart_standing e ss [] = refl
apart_standing e ss (w ∷ ws) =
    rw (read_flip e w, apart_standing e ss ws)
    (swap (has_read e.day e.value w) (any (has_read w.day w.value) ss) (any (has_read e.day e.value) ws) (are_apart ss ws))

apart_kept : (e : Entry) (b d : Bool) (ss ws : List Entry) → (b ≡ true → d ≡ false) → are_apart (keep_if b e ss) (keep_if d e ws) ≡ not ((b && any (has_read e.day e.value) ws) || (d && any (has_read e.day e.value) ss)) && are_apart ss ws
unfolding are_apart every
apart_kept e true true ss ws h = false_is (sym (h refl))
apart_kept e true false ss ws h = rw (or_none (any (has_read e.day e.value) ws)) (apart_standing e ss ws)
apart_kept e false true ss ws h = refl
apart_kept e false false ss ws h = refl

pub stands_unwithdrawn : (e : Entry) → is_standing e ≡ true → is_withdrawn e ≡ false
unfolding is_standing is_withdrawn
stands_unwithdrawn e h = rw (eqb-true e.kind kind_standing h)

pub withdrawn_unstanding : (e : Entry) → is_withdrawn e ≡ true → is_standing e ≡ false
unfolding is_standing is_withdrawn
withdrawn_unstanding e h = rw (eqb-true e.kind kind_withdrawn h)

pub apart_more : (e : Entry) (es : List Entry) → are_apart (standing (e ∷ es)) (withdrawn (e ∷ es)) ≡ not (clashes e es) && are_apart (standing es) (withdrawn es)
unfolding those clashes
apart_more e es = apart_kept e (is_standing e) (is_withdrawn e) (standing es) (withdrawn es) (stands_unwithdrawn e)

-- ---- when nothing need be compared
module _ (day value : ℕ) where
  -- a day after every standing one
  pub none_stands : (ss : List Entry) → days_rise ss ≡ true → day_of (slot_at ss 0) < day → any (has_read day value) ss ≡ false
  unfolding any has_read days_rise day_of slot_at
  none_stands [] r l = refl
  none_stands (s ∷ []) r l =
      let other : s.day ≡ day → ⊥ = λ e. omega arith in
      rw (ne_eqb s.day day other)
  none_stands (s ∷ t ∷ ss) r l =
      let c = both (is_later s t) (days_rise (t ∷ ss)) r in
      let falls : t.day < s.day = ltb-true _ _ c.0 in
      let other : s.day ≡ day → ⊥ = λ e. omega arith in
      rw (ne_eqb s.day day other) (none_stands (t ∷ ss) c.1 (omega arith))

-- ---- an entry that clashes with none
module _ (e : Entry) (es : List Entry) where
  pub free_standing : is_standing e ≡ true → any (has_read e.day e.value) (withdrawn es) ≡ false → clashes e es ≡ false
  unfolding clashes
  free_standing s none = rw (s, stands_unwithdrawn e s, none)

  pub free_withdrawn : is_withdrawn e ≡ true → days_rise (standing es) ≡ true → last_day es < e.day → clashes e es ≡ false
  unfolding clashes
  free_withdrawn w rises later = rw (w, withdrawn_unstanding e w, none_stands e.day e.value (standing es) rises later)

  pub free_other : is_standing e ≡ false → is_withdrawn e ≡ false → clashes e es ≡ false
  unfolding clashes
  free_other s w = rw (s, w)

  pub stays_apart : clashes e es ≡ false → are_apart (standing es) (withdrawn es) ≡ true → are_apart (standing (e ∷ es)) (withdrawn (e ∷ es)) ≡ true
  stays_apart free old = rw (apart_more e es, free, old)
