-- Lists of entries under tests: what the kept entries of a journal share with all of its entries.
use Rattle.std.specs.Prelude.{None}
use mathlib.Core.Path.{◌≡◌, refl, ap, ◌∙◌}
use mathlib.Core.Bool.{Bool, true, false, not, ◌||◌, cond}
use mathlib.Core.List.{List, [], ◌∷◌}
use Prim.Native.Nat.{ℕ, suc}
use borrow.Author.Tests.{eqb-true, not-true}
use lib.Dec.{eqb}
use lib.ListN.{length}
use Rattle.register.specs.declared.head.Head.{Head}
use Rattle.terms.specs.declared.entry.Entry.{Entry}
use Rattle.terms.specs.Entry.{kind_standing, kind_withdrawn, kind_held, kind_carry, is_standing, is_withdrawn, is_held, keep_if, those}
use Rattle.journal.specs.Journal.{is_kept, standing, withdrawn, kept, slot_if, held_of, is_there}
use Rattle.journal.specs.Sound.{every, any, is_in_range, is_read, is_held_right}
use Rattle.calls.proofs.Bools.{both, together, or_false, left_or, right_or, apart, by_test}
use Rattle.journal.proofs.Bools.{neither}

-- ---- those of those
module _ (p q : Entry → Bool) where
  keep_keep : ((e : Entry) → p e ≡ true → q e ≡ true) → (b : Bool) (e : Entry) (es : List Entry) → q e ≡ b → those p (keep_if b e es) ≡ keep_if (p e) e (those p es)
  unfolding those
  keep_keep h true e es t = refl
  keep_keep h false e es t = by_test (p e) (λ s. absurd (apart (h e s) t)) (λ s. rw s)

  pub those_those : ((e : Entry) → p e ≡ true → q e ≡ true) → (es : List Entry) → those p (those q es) ≡ those p es
  unfolding those
  those_those h [] = refl
  those_those h (e ∷ es) = keep_keep h (q e) e (those q es) refl ∙ ap (keep_if (p e) e) (those_those h es)

  every_keep : (b : Bool) (e : Entry) (es : List Entry) → p e ≡ true → every p es ≡ true → every p (keep_if b e es) ≡ true
  unfolding every
  every_keep true e es h g = together h g
  every_keep false e es h g = g

  pub every_those : (es : List Entry) → every p es ≡ true → every p (those q es) ≡ true
  unfolding those every
  every_those [] h = refl
  every_those (e ∷ es) h =
      let h' = both (p e) (every p es) h in
      every_keep (q e) e (those q es) h'.0 (every_those es h'.1)

-- ---- the kinds
other_kinds : (k : ℕ) → eqb k kind_held ≡ true → eqb k kind_standing || eqb k kind_withdrawn ≡ false
other_kinds k h = rw (eqb-true k kind_held h)

some_kind : (k : ℕ) → eqb k kind_standing || (eqb k kind_withdrawn || eqb k kind_held) ≡ true → eqb k 0 ≡ false
some_kind k h = by_test (eqb k 0) (λ z. absurd (apart (rw (eqb-true k 0 z) at h) refl)) (λ z. z)

other_carry : (k : ℕ) → eqb k kind_standing || (eqb k kind_withdrawn || eqb k kind_held) ≡ true → eqb k kind_carry ≡ false
other_carry k h = by_test (eqb k kind_carry) (λ z. absurd (apart (rw (eqb-true k kind_carry z) at h) refl)) (λ z. z)

last_or : (x y : Bool) → x || (y || false) ≡ true → x || y ≡ true
last_or true y h = refl
last_or false true h = refl
last_or false false h = h

module _ (head : Head) (e : Entry) (h : is_read head e ≡ true) where
  kinds : is_standing e || (is_withdrawn e || is_held e) ≡ true
  unfolding is_read
  kinds = (both (is_standing e || (is_withdrawn e || is_held e)) (is_in_range head e) h).0

  -- a read has a kind
  pub has_kind : eqb e.kind 0 ≡ false
  unfolding is_standing is_withdrawn is_held
  has_kind = some_kind e.kind kinds

  -- which is no carry's
  pub no_carry_kind : eqb e.kind kind_carry ≡ false
  unfolding is_standing is_withdrawn is_held
  no_carry_kind = other_carry e.kind kinds

  held_other : is_held e ≡ true → is_kept e ≡ false
  unfolding is_standing is_withdrawn is_held
  held_other t = other_kinds e.kind t

  -- and is kept unless it is held
  pub kept_unless_held : is_kept e ≡ not (is_held e)
  kept_unless_held =
      by_test (is_held e)
      (λ t. rw t (held_other t))
      (λ t. rw t (last_or (is_standing e) (is_withdrawn e) (rw t at kinds)))

-- ---- where none is held, all are kept
pub all_kept : (head : Head) (es : List Entry) → every (is_read head) es ≡ true → any is_held es ≡ false → those is_kept es ≡ es
unfolding those every any
all_kept head [] r h = refl
all_kept head (e ∷ es) r h =
    let r' = both (is_read head e) (every (is_read head) es) r in
    let h' = neither (is_held e) (any is_held es) h in
    rw (kept_unless_held head e r'.0, h'.0, all_kept head es r'.1 h'.1)

-- ---- and none that is kept is held
kept_not_held : (e : Entry) → is_kept e ≡ true → is_held e ≡ false
unfolding is_standing is_withdrawn is_held
kept_not_held e h = by_test (is_held e) (λ t. absurd (apart h (other_kinds e.kind t))) (λ t. t)

none_held_keep : (b : Bool) (e : Entry) (es : List Entry) → is_kept e ≡ b → any is_held es ≡ false → any is_held (keep_if b e es) ≡ false
unfolding any
none_held_keep true e es t h = or_false (kept_not_held e t) h
none_held_keep false e es t h = h

pub none_held : (es : List Entry) → any is_held (those is_kept es) ≡ false
unfolding those any
none_held [] = refl
none_held (e ∷ es) = none_held_keep (is_kept e) e (those is_kept es) refl (none_held es)

-- where none is held, the clause of the held read has nothing to say
pub none_held_right : (es : List Entry) → any is_held es ≡ false → is_held_right es ≡ true
unfolding any is_held_right
none_held_right [] h = refl
none_held_right (e ∷ es) h = let h' = neither (is_held e) (any is_held es) h in rw (h'.0, h'.1)

pub none_held_empty : (es : List Entry) → any is_held es ≡ false → held_of es ≡ None
unfolding any held_of
none_held_empty [] h = refl
none_held_empty (e ∷ es) h = rw (neither (is_held e) (any is_held es) h).0

-- ---- the standing and withdrawn entries are among the kept
pub standing_kept : (es : List Entry) → standing (those is_kept es) ≡ standing es
standing_kept = those_those is_standing is_kept (λ e. left_or (is_withdrawn e))

pub withdrawn_kept : (es : List Entry) → withdrawn (those is_kept es) ≡ withdrawn es
withdrawn_kept = those_those is_withdrawn is_kept (λ e. right_or (is_standing e))

-- ---- a journal whose held read comes last: that read, if there is one, and the kept ones
module _ (head : Head) (e : Entry) (es : List Entry) (r : every (is_read head) (e ∷ es) ≡ true) (h : is_held_right (e ∷ es) ≡ true) where
  -- all before the newest are kept
  pub rest_kept : those is_kept es ≡ es
  unfolding every is_held_right
  rest_kept =
      all_kept head es
      (both (is_read head e) (every (is_read head) es) r).1
      (not-true (any is_held es) (both (not (any is_held es)) _ h).0)

  pub newest_kept : is_kept e ≡ not (is_held e)
  unfolding every
  newest_kept = kept_unless_held head e (both (is_read head e) (every (is_read head) es) r).0

length_split : (b : Bool) (e : Entry) (es : List Entry) → suc (length es) ≡ cond (is_there (slot_if b e None)) (suc (length (keep_if (not b) e es))) (length (keep_if (not b) e es))
unfolding is_there
length_split true e es = refl
length_split false e es = refl

-- how many there are, with and without a held one
pub kept_and_held : (head : Head) (es : List Entry) → every (is_read head) es ≡ true → is_held_right es ≡ true → length es ≡ cond (is_there (held_of es)) (suc (kept es)) (kept es)
unfolding those held_of is_there
kept_and_held head [] r h = refl
kept_and_held head (e ∷ es) r h = rw (rest_kept head e es r h, newest_kept head e es r h) (length_split (is_held e) e es)
