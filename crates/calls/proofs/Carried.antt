-- The carry of a sound journal: a read stands after it, it counts fewer reads than there are days before that one, and it stays right with
-- the standing reads that come and go.
use Rattle.std.specs.Prelude.{Option, Some, None}
use mathlib.Core.Path.{◌≡◌, refl, ap}
use mathlib.Core.Bool.{Bool, true, false, not, ◌&&◌, ◌||◌}
use mathlib.Core.List.{List, [], ◌∷◌}
use Prim.Native.Nat.{ℕ, ◌≤◌, ◌<◌}
use native.Mathlib.Omega.{arith}
use borrow.Author.Tests.{leb-true, ltb-true}
use lib.Dec.{leb}
use Rattle.terms.specs.declared.entry.Entry.{Entry}
use Rattle.register.specs.declared.head.Head.{Head}
use Rattle.journal.specs.Journal.{oldest_of, day_of}
use Rattle.journal.specs.Sound.{holds, has_read, is_before, is_carry, carries_right}
use Rattle.calls.specs.Checks.{is_oldest_kept}
use Rattle.calls.proofs.Bools.{both, left_or, apart}

-- ---- what a carry that is right says
pub record Carries (head : Head) (oldest : Option Entry) : Type 0 where
  pub small : holds head head.carry.first ≡ true
  pub fewer : head.carry.flagged ≤ head.carry.folded
  pub some : 1 ≤ head.carry.folded
  pub before : head.carry.folded < day_of oldest

before_day : (folded : ℕ) (oldest : Option Entry) → is_before folded oldest ≡ true → folded < day_of oldest
unfolding is_before day_of
before_day folded (Some e) h = ltb-true folded e.day h
before_day folded None h = absurd (apart h refl)

carries_of : (head : Head) (oldest : Option Entry) → is_carry head oldest ≡ true → Carries head oldest
unfolding is_carry
carries_of head oldest h =
    let c = head.carry in
    let h₁ = both (holds head c.first) _ h in
    let h₂ = both (leb c.flagged c.folded) _ h₁.1 in
    let h₃ = both (leb 1 c.folded) (is_before c.folded oldest) h₂.1 in
    record { small = h₁.0; fewer = leb-true _ _ h₂.0; some = leb-true _ _ h₃.0; before = before_day c.folded oldest h₃.1 }

if_carried : (carried right : Bool) → not carried || right ≡ true → carried ≡ true → right ≡ true
if_carried true right h t = h
if_carried false right h t = absurd (apart t refl)

module _ (head : Head) (ss : List Entry) (right : carries_right head ss ≡ true) (carried : head.carried ≡ true) where
  pub carries : Carries head (oldest_of ss)
  unfolding carries_right
  carries = carries_of head (oldest_of ss) (if_carried head.carried (is_carry head (oldest_of ss)) right carried)

  -- a read stands
  pub carried_stands : ss ≡ [] → ⊥
  unfolding oldest_of day_of
  carried_stands none = let h : head.carry.folded < day_of (oldest_of []) = rw none at carries.before in omega arith

-- ---- where no read stands there is no carry
uncarried : (carried right : Bool) → not carried || right ≡ true → right ≡ false → carried ≡ false
uncarried true right h n = absurd (apart h n)
uncarried false right h n = refl

pub none_uncarried : (head : Head) → carries_right head [] ≡ true → head.carried ≡ false
none_uncarried head h = pick head.carried refl
  where
    pick : (b : Bool) → head.carried ≡ b → head.carried ≡ false
    pick true t = absurd (carried_stands head [] h t refl)
    pick false t = t

pub uncarried_right : (head : Head) (ss : List Entry) → head.carried ≡ false → carries_right head ss ≡ true
unfolding carries_right
uncarried_right head ss h = left_or (is_carry head (oldest_of ss)) (ap not h)

-- ---- one standing read more
pub carries_more : (head : Head) (e : Entry) (ss : List Entry) → carries_right head ss ≡ true → carries_right head (e ∷ ss) ≡ true
unfolding carries_right oldest_of
carries_more head e [] h = uncarried_right head (e ∷ []) (none_uncarried head h)
carries_more head e (s ∷ ss) h = h

-- ---- one less: the last, unless it is the oldest kept
not_both : (x y : Bool) → x && y ≡ false → y ≡ true → x ≡ false
not_both true y h t = absurd (apart t h)
not_both false y h t = refl

pub carries_less : (head : Head) (day value : ℕ) (r : Entry) (ss : List Entry) → has_read day value r ≡ true → is_oldest_kept day value head (oldest_of (r ∷ ss)) ≡ false → carries_right head (r ∷ ss) ≡ true → carries_right head ss ≡ true
unfolding carries_right oldest_of is_oldest_kept
carries_less head day value r [] named other h = uncarried_right head [] (not_both head.carried (has_read day value r) other named)
carries_less head day value r (s ∷ ss) named other h = h
