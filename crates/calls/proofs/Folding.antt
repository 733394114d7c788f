-- What a fold leaves of the lists of a journal: the last three standing reads, and the withdrawn ones that are later.
use mathlib.Core.Path.{◌≡◌, refl, ap, ◌∙◌}
use mathlib.Core.Bool.{Bool, true, false, not, ◌||◌, and-false}
use mathlib.Core.List.{List, [], ◌∷◌}
use Prim.Native.Nat.{ℕ, suc, ◌+◌, ◌≤◌, ◌<◌}
use native.Mathlib.Omega.{arith}
use borrow.Author.Tests.{eqb-true, ltb-true, le-leb, lt-leb, not-true}
use lib.Dec.{leb, ltb}
use lib.ListN.{length}
use Rattle.terms.specs.declared.entry.Entry.{Entry}
use Rattle.terms.specs.Letter.{is_holdable}
use Rattle.terms.specs.Entry.{kind_standing, kind_withdrawn, kind_held, is_standing, is_withdrawn, is_held, keep_if, those, slot_at}
use Rattle.journal.specs.Journal.{standing, withdrawn, day_of}
use Rattle.journal.specs.Sound.{every, any, is_later, days_rise, is_final_read, exists, may_be_held, is_held_right}
use Rattle.calls.specs.Checks.{least_to_fold}
use Rattle.calls.specs.Fold.{kept_from, stays}
use Rattle.calls.proofs.Bools.{both, together, or_false, left_or, apart, by_test}
use Rattle.journal.proofs.Bools.{neither}
use Rattle.calls.proofs.Lists.{every_those, none_held_right}

-- ---- lists under tests
module _ (p q : Entry → Bool) where
  keep_swap : (b c : Bool) (e : Entry) (es fs : List Entry) → p e ≡ b → q e ≡ c → those p es ≡ those q fs → those p (keep_if c e es) ≡ those q (keep_if b e fs)
  unfolding those
  keep_swap true true e es fs hp hq h = rw (hp, hq) (ap (λ (l : List Entry). e ∷ l) h)
  keep_swap true false e es fs hp hq h = rw hq h
  keep_swap false true e es fs hp hq h = rw hp h
  keep_swap false false e es fs hp hq h = h

  -- the order of two tests does not matter
  pub those_swap : (es : List Entry) → those p (those q es) ≡ those q (those p es)
  unfolding those
  those_swap [] = refl
  those_swap (e ∷ es) = keep_swap (p e) (q e) e (those q es) (those p es) refl refl (those_swap es)

  -- tests that agree on every one
  those_alike : (r : Entry → Bool) → ((e : Entry) → r e ≡ true → p e ≡ q e) → (es : List Entry) → every r es ≡ true → those p es ≡ those q es
  unfolding those every
  those_alike r same [] h = refl
  those_alike r same (e ∷ es) h =
      let h' = both (r e) (every r es) h in
      rw (same e h'.0, those_alike r same es h'.1)

module _ (p : Entry → Bool) where
  every_own_keep : (b : Bool) (e : Entry) (es : List Entry) → p e ≡ b → every p es ≡ true → every p (keep_if b e es) ≡ true
  unfolding every
  every_own_keep true e es h g = together h g
  every_own_keep false e es h g = g

  every_own : (es : List Entry) → every p (those p es) ≡ true
  unfolding those every
  every_own [] = refl
  every_own (e ∷ es) = every_own_keep (p e) e (those p es) refl (every_own es)

  any_keep : (q : Entry → Bool) (b : Bool) (e : Entry) (es : List Entry) → q e ≡ false → any q es ≡ false → any q (keep_if b e es) ≡ false
  unfolding any
  any_keep q true e es h g = or_false h g
  any_keep q false e es h g = g

  -- a test that none passes
  pub any_those : (q : Entry → Bool) (es : List Entry) → any q es ≡ false → any q (those p es) ≡ false
  unfolding those any
  any_those q [] h = refl
  any_those q (e ∷ es) h =
      let h' = neither (q e) (any q es) h in
      any_keep q (p e) e (those p es) h'.0 (any_those q es h'.1)

  -- as many go from all of them as go from those that stand, or more
  fewer_keep : (b c : Bool) (e : Entry) (es : List Entry) → is_standing e ≡ c → length (those p es) + length (standing es) ≤ length es + length (standing (those p es)) → length (keep_if b e (those p es)) + length (keep_if c e (standing es)) ≤ suc (length es) + length (standing (keep_if b e (those p es)))
  unfolding those
  fewer_keep true true e es s h = rw s (omega arith)
  fewer_keep true false e es s h = rw s (omega arith)
  fewer_keep false true e es s h = omega arith
  fewer_keep false false e es s h = omega arith

  pub fewer : (es : List Entry) → length (those p es) + length (standing es) ≤ length es + length (standing (those p es))
  unfolding those
  fewer [] = omega arith
  fewer (e ∷ es) = fewer_keep (p e) (is_standing e) e es refl (fewer es)

-- ---- which entries stay, by kind
or_none : (x : Bool) → x || false ≡ x
or_none true = refl
or_none false = refl

or_true : (x : Bool) → x || true ≡ true
or_true true = refl
or_true false = refl

module _ (oldest : ℕ) (e : Entry) where
  stays_standing : is_standing e ≡ true → stays oldest e ≡ leb oldest e.day
  unfolding stays is_standing is_withdrawn is_held
  stays_standing h = rw (eqb-true e.kind kind_standing h) (or_none (leb oldest e.day))

  stays_withdrawn : is_withdrawn e ≡ true → stays oldest e ≡ ltb oldest e.day
  unfolding stays is_standing is_withdrawn is_held
  stays_withdrawn h = rw (eqb-true e.kind kind_withdrawn h)

  stays_held : is_held e ≡ true → stays oldest e ≡ true
  unfolding stays
  stays_held h = left_or _ h

-- ---- the standing reads from a day on
abbrev from : ℕ → Entry → Bool
from oldest s = leb oldest s.day

none_from : (oldest : ℕ) (s : Entry) (ss : List Entry) → days_rise (s ∷ ss) ≡ true → s.day ≤ oldest → those (from oldest) ss ≡ []
unfolding days_rise those
none_from oldest s [] h l = refl
none_from oldest s (t ∷ ss) h l =
    let h' = both (is_later s t) (days_rise (t ∷ ss)) h in
    let g : t.day < s.day = ltb-true _ _ h'.0 in
    rw (lt-leb oldest t.day (omega arith)) (none_from oldest t ss h'.1 (omega arith))

module _ (a b c : Entry) (rest : List Entry) (rise : days_rise (a ∷ b ∷ c ∷ rest) ≡ true) where
  rise₁ : (is_later a b ≡ true) × (days_rise (b ∷ c ∷ rest) ≡ true)
  unfolding days_rise
  rise₁ = both (is_later a b) (days_rise (b ∷ c ∷ rest)) rise

  rise₂ : (is_later b c ≡ true) × (days_rise (c ∷ rest) ≡ true)
  unfolding days_rise
  rise₂ = both (is_later b c) (days_rise (c ∷ rest)) rise₁.1

  last_three : those (from c.day) (a ∷ b ∷ c ∷ rest) ≡ a ∷ b ∷ c ∷ []
  unfolding those
  last_three =
      let ab : b.day < a.day = ltb-true _ _ rise₁.0 in
      let bc : c.day < b.day = ltb-true _ _ rise₂.0 in
      rw (
        le-leb c.day a.day (omega arith),
        le-leb c.day b.day (omega arith),
        le-leb c.day c.day (omega arith),
        none_from c.day c rest rise₂.1 (omega arith),
      )

  pub third_rise : days_rise (c ∷ rest) ≡ true
  third_rise = rise₂.1

  pub three_rise : days_rise (a ∷ b ∷ c ∷ []) ≡ true
  unfolding days_rise
  three_rise = together rise₁.0 (together rise₂.0 refl)

-- ---- at least four stand
pub record Four (ss : List Entry) : Type 0 where
  pub newest : Entry
  pub second : Entry
  pub third : Entry
  pub fourth : Entry
  pub older : List Entry
  pub are : ss ≡ newest ∷ second ∷ third ∷ fourth ∷ older

pub four : (ss : List Entry) → least_to_fold ≤ length ss → Four ss
four [] h = absurd (let f : ⊥ = omega arith in f)
four (a ∷ []) h = absurd (let f : ⊥ = omega arith in f)
four (a ∷ b ∷ []) h = absurd (let f : ⊥ = omega arith in f)
four (a ∷ b ∷ c ∷ []) h = absurd (let f : ⊥ = omega arith in f)
four (a ∷ b ∷ c ∷ d ∷ rest) h = record { newest = a; second = b; third = c; fourth = d; older = rest; are = refl }

-- ---- what stands and is withdrawn then
module _ (es : List Entry) (a b c : Entry) (rest : List Entry) (st : standing es ≡ a ∷ b ∷ c ∷ rest) (rise : days_rise (standing es) ≡ true) where
  pub kept_from_lem : kept_from es ≡ c.day
  unfolding kept_from slot_at day_of
  kept_from_lem = rw st

  abbrev left : List Entry
  left = those (stays (kept_from es)) es

  pub standing_left : standing left ≡ a ∷ b ∷ c ∷ []
  standing_left =
      let oldest = kept_from es in
      those_swap is_standing (stays oldest) es
      ∙ those_alike (stays oldest) (from oldest) is_standing (stays_standing oldest) (standing es) (every_own is_standing es)
      ∙ rw (st, kept_from_lem) (last_three a b c rest (rw st at rise))

pub withdrawn_left : (oldest : ℕ) (es : List Entry) → withdrawn (those (stays oldest) es) ≡ those (λ w. ltb oldest w.day) (withdrawn es)
withdrawn_left oldest es =
    those_swap is_withdrawn (stays oldest) es
    ∙ those_alike (stays oldest) (λ w. ltb oldest w.day) is_withdrawn (stays_withdrawn oldest) (withdrawn es) (every_own is_withdrawn es)

-- ---- the held read stays, after those that are left
held_not_standing : (e : Entry) → is_held e ≡ true → is_standing e ≡ false
unfolding is_standing is_held
held_not_standing e h = rw (eqb-true e.kind kind_held h)

-- a read that may be held after some reads may be held after some of these, if one stands and none is F
may_still_be_held : (p : Entry → Bool) (e : Entry) (ss : List Entry) → exists (those p ss) ≡ true → any is_final_read ss ≡ false → may_be_held e ss ≡ true → may_be_held e (those p ss) ≡ true
unfolding may_be_held
may_still_be_held p e ss there none h =
    let h₁ = both (is_holdable e.letter) _ h in
    let h₂ = both (exists ss) _ h₁.1 in
    let h₃ = both (every (is_later e) ss) _ h₂.1 in
    rw (h₁.0, there, every_those (is_later e) p ss h₃.0, any_those p is_final_read ss none) (ap not (and-false (is_final_read e)))

not_held_or : (x y : Bool) → not x || y ≡ true → x ≡ true → y ≡ true
not_held_or true y h t = h
not_held_or false y h t = absurd (apart t refl)

module _ (oldest : ℕ) (e : Entry) (es : List Entry) (right : is_held_right (e ∷ es) ≡ true) where
  abbrev rest : List Entry
  rest = those (stays oldest) es

  others : any is_held rest ≡ false
  unfolding is_held_right
  others = any_those (stays oldest) is_held es (not-true (any is_held es) (both (not (any is_held es)) _ right).0)

  stays_last : is_held e ≡ true → any is_final_read (standing es) ≡ false → exists (standing rest) ≡ true → is_held_right (e ∷ rest) ≡ true
  unfolding is_held_right
  stays_last held none there =
      let before : may_be_held e (standing es) ≡ true = not_held_or (is_held e) _ (both (not (any is_held es)) _ right).1 held in
      let swap = those_swap is_standing (stays oldest) es in
      let now : may_be_held e (standing rest) ≡ true = rw swap (may_still_be_held (stays oldest) e (standing es) (rw swap at there) none before) in
      rw (others, now) (or_true (not (is_held e)))

pub held_left : (oldest : ℕ) (es : List Entry) → is_held_right es ≡ true → any is_final_read (standing es) ≡ false → exists (standing (those (stays oldest) es)) ≡ true → is_held_right (those (stays oldest) es) ≡ true
unfolding those
held_left oldest [] right none there = right
held_left oldest (e ∷ es) right none there =
    by_test (is_held e)
    (λ t.
    let s = held_not_standing e t in
    let r = stays_held oldest e t in
    rw r (stays_last oldest e es right t (rw s at none) (rw (r, s) at there)))
    (λ t. none_held_right _ (any_keep (stays oldest) is_held (stays oldest e) e (those (stays oldest) es) t (others oldest e es right)))
