-- Whether one more entry keeps the order: each clause over the longer list is what the entry adds and the clause over the shorter.
use Rattle.std.specs.Prelude.{Option, Some, None}
use mathlib.Core.Path.{◌≡◌, refl, ap}
use mathlib.Core.Bool.{Bool, true, false, not, ◌&&◌, ◌||◌, and_assoc, and_comm, cond, and-true, and-false}
use mathlib.Core.List.{List, [], ◌∷◌}
use Prim.Native.Nat.{ℕ, zero, suc, ◌+◌, ◌-◌, ◌≤◌, ◌<◌}
use native.Mathlib.Omega.{arith}
use borrow.Author.Tests.{ltb-true, lt-ltb, eqb-true}
use Rattle.terms.specs.declared.entry.Entry.{Entry}
use Rattle.register.specs.declared.head.Head.{Head}
use Rattle.terms.specs.Entry.{kind_standing, is_standing, is_held, keep_if, those, slot_at}
use Rattle.terms.specs.Letter.{is_opening, is_holdable}
use Rattle.register.specs.Entries.{entry_start, entry_at}
use Rattle.journal.specs.Journal.{entries_to, standing, slot_if, held_of, is_there, day_of}
use Rattle.journal.specs.Sound.{every, any, is_read, days_rise, opens_right, is_final_read, has_one_final, is_later, opens, exists, may_be_held, is_held_right, are_in_order}
use Rattle.journal.specs.Inner.Follow.{is_after, may_stand, may_follow}
use Rattle.journal.specs.Inner.Loops.{stands_by, follows_by}
use Rattle.journal.proofs.Bools.{both}

-- ---- conjunctions
and_left : (x y z : Bool) → x && (y && z) ≡ y && (x && z)
and_left true y z = refl
and_left false true z = refl
and_left false false z = refl

absorb : (x y : Bool) → (x ≡ true → y ≡ true) → x && y ≡ x
absorb true y h = h refl
absorb false y h = refl

-- ---- what an entry adds to the standing reads before it, if it stands, and if it is held
abbrev no_second_final : Entry → List Entry → Bool
no_second_final e ss = not (is_final_read e && any is_final_read ss)

abbrev stands_right : Head → Entry → List Entry → Bool
stands_right head e ss = may_stand head e (slot_at ss 0) && no_second_final e ss

abbrev holds_right : Entry → List Entry → Bool
holds_right e ss = is_holdable e.letter && (is_after e (slot_at ss 0) && no_second_final e ss)

-- ---- the clauses over the standing reads
abbrev rightly : Head → List Entry → Bool
rightly head ss = days_rise ss && (opens_right head ss && has_one_final ss)

deal : (l d o p f g : Bool) → (l && d) && ((o && p) && (f && g)) ≡ ((l && o) && f) && (d && (p && g))
deal l d o p f g = simp (and_assoc, and_left)

stand_more : (head : Head) (b : Bool) (e : Entry) (ss : List Entry) → rightly head (keep_if b e ss) ≡ (not b || stands_right head e ss) && rightly head ss
unfolding days_rise opens_right has_one_final may_stand slot_at any
stand_more head false e ss = refl
stand_more head true e [] = simp (and_assoc, and-true)
stand_more head true e (s ∷ ss) =
    let r = s ∷ ss in
    deal (is_later e s) (days_rise r) (not (is_opening e.letter)) (opens_right head r) (no_second_final e r) (has_one_final r)

-- ---- the held read: later than the newest of a rising list is later than every one
module _ (e : Entry) where
  later_all : (s : Entry) (ss : List Entry) → days_rise (s ∷ ss) ≡ true → is_later e s ≡ true → every (is_later e) ss ≡ true
  unfolding days_rise every
  later_all s [] d l = refl
  later_all s (t ∷ ss) d l =
      let d' = both (is_later s t) (days_rise (t ∷ ss)) d in
      let a : t.day < s.day = ltb-true _ _ d'.0 in
      let b : s.day < e.day = ltb-true _ _ l in
      let m : is_later e t ≡ true = lt-ltb t.day e.day (omega arith) in
      rw m (later_all t ss d'.1 m)

  after_newest : (ss : List Entry) → days_rise ss ≡ true → exists ss && every (is_later e) ss ≡ is_after e (slot_at ss 0)
  unfolding exists every is_after slot_at
  after_newest [] d = refl
  after_newest (s ∷ ss) d = absorb (is_later e s) (every (is_later e) ss) (later_all s ss d)

  held_right : (ss : List Entry) → days_rise ss ≡ true → may_be_held e ss ≡ holds_right e ss
  unfolding may_be_held
  held_right ss d = rw (← and_assoc (exists ss) (every (is_later e) ss) (no_second_final e ss), after_newest ss d)

-- none of the entries is held: the newest is not, and those before it are as they should be
no_held : (e : Entry) (held others right : Bool) → not (held || others) ≡ not (is_there (slot_if held e None)) && (not others && (not held || right))
unfolding is_there
no_held e true o r = refl
no_held e false true r = refl
no_held e false false r = refl

none_held : (es : List Entry) → not (any is_held es) ≡ not (is_there (held_of es)) && is_held_right es
unfolding any held_of is_there is_held_right
none_held [] = refl
none_held (e ∷ es) = no_held e (is_held e) (any is_held es) (may_be_held e (standing es))

-- ---- all the clauses
in_order : (head : Head) (es : List Entry) → are_in_order head es ≡ every (is_read head) es && (rightly head (standing es) && is_held_right es)
unfolding are_in_order
in_order head es = simp and_assoc

-- standing days rise
pub days_rise_lem : (head : Head) (es : List Entry) → are_in_order head es ≡ true → days_rise (standing es) ≡ true
unfolding are_in_order
days_rise_lem head es h = (both (days_rise (standing es)) _ (both (every (is_read head) es) _ h).1).0

combine : (r a s p t h w v : Bool) → (p ≡ true → w ≡ v) → (r && a) && ((s && p) && ((t && h) && w)) ≡ (r && (t && (s && v))) && (a && (p && h))
combine r a s true t h w v q = rw (q refl) (simp (and_assoc, and-true, and_comm, and_left))
combine r a s false t h w v q = simp (and_assoc, and-false)

pub in_order_more : (head : Head) (e : Entry) (es : List Entry) → are_in_order head (e ∷ es) ≡ may_follow head e (slot_at (standing es) 0) (held_of es) (any is_final_read (standing es)) && are_in_order head es
unfolding may_follow every those is_held_right
in_order_more head e es =
    let ss = standing es in
    rw (in_order head (e ∷ es), in_order head es, stand_more head (is_standing e) e ss, none_held es)
    (combine
    (is_read head e)
    (every (is_read head) es)
    (not (is_standing e) || stands_right head e ss)
    (rightly head ss)
    (not (is_there (held_of es)))
    (is_held_right es)
    (not (is_held e) || may_be_held e ss)
    (not (is_held e) || holds_right e ss)
    (λ p. ap (λ (x : Bool). not (is_held e) || x) (held_right e ss (both (days_rise ss) (opens_right head ss && has_one_final ss) p).0)))

-- ---- the same by numbers, as the loop has it
pub stands_unheld : (e : Entry) → is_standing e ≡ true → is_held e ≡ false
unfolding is_standing is_held
stands_unheld e h = rw (eqb-true e.kind kind_standing h)

choose : (b h x y : Bool) → (b ≡ true → h ≡ false) → (not b || x) && (not h || y) ≡ cond b x (not h || y)
choose true h x y q = rw (q refl) (and-true x)
choose false h x y q = refl

chosen : (r t b h x y : Bool) → (b ≡ true → h ≡ false) → r && (t && ((not b || x) && (not h || y))) ≡ (r && t) && cond b x (not h || y)
chosen r t b h x y q = rw (choose b h x y q, and_assoc)

pub by_numbers : (head : Head) (e : Entry) (last held : Option Entry) (ended : Bool) → may_follow head e last held ended ≡ follows_by head e (is_there last) (day_of last) (is_there held) ended
unfolding may_follow may_stand is_after follows_by stands_by is_there day_of
by_numbers head e (Some s) held ended =
    let one = not (is_final_read e && ended) in
    chosen
    (is_read head e)
    (not (is_there held))
    (is_standing e)
    (is_held e)
    ((is_later e s && not (is_opening e.letter)) && one)
    (is_holdable e.letter && (is_later e s && one))
    (stands_unheld e)
by_numbers head e None held ended =
    let one = not (is_final_read e && ended) in
    chosen
    (is_read head e)
    (not (is_there held))
    (is_standing e)
    (is_held e)
    (opens head e && one)
    (is_holdable e.letter && (false && one))
    (stands_unheld e)

-- ---- what is not in order stays so
module _ (head : Head) (a : List ℕ) where
  disordered_after : (k n : ℕ) → are_in_order head (entries_to k a) ≡ false → are_in_order head (entries_to (n + k) a) ≡ false
  unfolding entries_to
  disordered_after k zero h =
      let e : zero + k ≡ k = omega arith in
      rw e h
  disordered_after k (suc n) h =
      let e : suc n + k ≡ suc (n + k) = omega arith in
      rw (e, in_order_more head (entry_at a (entry_start (n + k))) (entries_to (n + k) a), disordered_after k n h, and-false)

  pub disordered_stays : (k m : ℕ) → k ≤ m → are_in_order head (entries_to k a) ≡ false → are_in_order head (entries_to m a) ≡ false
  disordered_stays k m le h =
      let e : m - k + k ≡ m = omega arith in
      rw e at (disordered_after k (m - k) h)
