-- The newest standing entry withdrawn, in a list of entries: what then stands, what is withdrawn, and that the list stays sound.
use mathlib.Core.Path.{◌≡◌, refl, sym, ap, ◌∙◌}
use mathlib.Core.Bool.{Bool, true, false, not, ◌&&◌, ◌||◌}
use mathlib.Core.List.{List, [], ◌∷◌}
use Prim.Native.Nat.{ℕ, ◌≤◌, ◌<◌}
use native.Mathlib.Omega.{arith}
use borrow.Author.Tests.{eqb-true, ltb-true, ne_eqb, not-true}
use lib.ListN.{length}
use Rattle.register.specs.declared.head.Head.{Head}
use Rattle.terms.specs.declared.entry.Entry.{Entry}
use Rattle.terms.specs.Entry.{kind_standing, kind_withdrawn, is_standing, is_withdrawn, is_held, keep_if, those}
use Rattle.terms.specs.Letter.{is_opening}
use Rattle.journal.specs.Journal.{is_kept, standing, withdrawn, newest_at}
use Rattle.journal.specs.Sound.{every, any, is_in_range, is_read, days_rise, opens_right, is_final_read, has_one_final, has_read, is_apart_from, are_apart, carries_right, is_held_right, is_later, are_sound}
use Rattle.journal.proofs.Entries.{any_kept}
use Rattle.calls.proofs.Bools.{both, together, or_false, apart, by_test}
use Rattle.journal.proofs.Bools.{neither}
use Rattle.calls.proofs.Lists.{none_held_right, rest_kept}
use Rattle.calls.proofs.Clauses.{clauses_of, of_clauses}

-- "becomes kind 3 in its place"
abbrev pub withdrawn_of : Entry → Entry
withdrawn_of e =
    record {
      kind = kind_withdrawn;
      day = e.day;
      value = e.value;
      letter = e.letter;
      indicator = e.indicator;
      flag = e.flag;
    }

abbrev pub pick_entries : Bool → List Entry → List Entry → List Entry
pick_entries true x y = x
pick_entries false x y = y

unfoldable pub newest_withdrawn : List Entry → List Entry
newest_withdrawn [] = []
newest_withdrawn (e ∷ es) = pick_entries (is_standing e) (withdrawn_of e ∷ es) (e ∷ newest_withdrawn es)

-- ---- where the newest standing entry is
module _ (r : Entry) (ss : List Entry) where
  pub newest_below : (es : List Entry) → standing es ≡ r ∷ ss → newest_at es < length es
  unfolding those newest_at
  newest_below [] h = absurd (let z : ◌≡◌ {A = ℕ} 0 1 = cc in omega arith)
  newest_below (e ∷ es) h =
      by_test (is_standing e)
      (λ t. rw t (omega arith))
      (λ t. rw t (omega (arith, newest_below es (rw t at h))))

  -- ---- what stands then
  pub newest_standing : (es : List Entry) → standing es ≡ r ∷ ss → standing (newest_withdrawn es) ≡ ss
  unfolding those newest_withdrawn is_standing
  newest_standing [] h = absurd (let z : ◌≡◌ {A = ℕ} 0 1 = cc in omega arith)
  newest_standing (e ∷ es) h =
      by_test (is_standing e)
      (λ t. let h' : e ∷ standing es ≡ r ∷ ss = rw t at h in rw t (cc))
      (λ t. rw (t, t) (newest_standing es (rw t at h)))

-- ---- what is withdrawn then
one_kind : (e : Entry) → is_standing e ≡ true → is_withdrawn e ≡ false
unfolding is_standing is_withdrawn
one_kind e h = rw (eqb-true e.kind kind_standing h)

or_left : (x y z : Bool) → x || (y || z) ≡ y || (x || z)
or_left true true z = refl
or_left true false z = refl
or_left false y z = refl

module _ (p : Entry → Bool) (r : Entry) (ss : List Entry) where
  pub newest_withdrawn_lem : (es : List Entry) → standing es ≡ r ∷ ss → any p (withdrawn (newest_withdrawn es)) ≡ p (withdrawn_of r) || any p (withdrawn es)
  unfolding those newest_withdrawn any
  newest_withdrawn_lem [] h = absurd (let z : ◌≡◌ {A = ℕ} 0 1 = cc in omega arith)
  newest_withdrawn_lem (e ∷ es) h =
      by_test (is_standing e)
      (λ t.
      let h' : e ∷ standing es ≡ r ∷ ss = rw t at h in
      let w : is_withdrawn (withdrawn_of e) ≡ true = unfold is_withdrawn in refl in
      let q : e ≡ r = cc in
      rw (t, w, one_kind e t, q))
      (λ t.
      rw (t, any_kept p (is_withdrawn e) e (withdrawn (newest_withdrawn es)), any_kept p (is_withdrawn e) e (withdrawn es), newest_withdrawn_lem es (rw t at h))
      (or_left (is_withdrawn e && p e) (p (withdrawn_of r)) (any p (withdrawn es))))

-- every and any
not_and : (x y : Bool) → x && not y ≡ not (not x || y)
not_and true y = refl
not_and false y = refl

every_any : (p : Entry → Bool) (es : List Entry) → every p es ≡ not (any (λ e. not (p e)) es)
unfolding every any
every_any p [] = refl
every_any p (e ∷ es) = ap (λ (b : Bool). p e && b) (every_any p es) ∙ not_and (p e) (any (λ x. not (p x)) es)

pub every_withdrawn : (p : Entry → Bool) (r : Entry) (ss es : List Entry) → standing es ≡ r ∷ ss → p (withdrawn_of r) ≡ true → every p (withdrawn es) ≡ true → every p (withdrawn (newest_withdrawn es)) ≡ true
every_withdrawn p r ss es h t g =
    every_any p (withdrawn (newest_withdrawn es))
    ∙ ap not (newest_withdrawn_lem (λ e. not (p e)) r ss es h)
    ∙ sym (not_and (p (withdrawn_of r)) (any (λ e. not (p e)) (withdrawn es)))
    ∙ together t (sym (every_any p (withdrawn es)) ∙ g)

-- ---- it is a list of reads as before, none of them held
withdrawn_read_lem : (head : Head) (e : Entry) → is_read head e ≡ true → is_read head (withdrawn_of e) ≡ true
unfolding is_read is_in_range is_standing is_withdrawn
withdrawn_read_lem head e h = (both (is_standing e || (is_withdrawn e || is_held e)) (is_in_range head e) h).1

newest_reads : (head : Head) (es : List Entry) → every (is_read head) es ≡ true → every (is_read head) (newest_withdrawn es) ≡ true
unfolding every newest_withdrawn
newest_reads head [] h = refl
newest_reads head (e ∷ es) h =
    let h' = both (is_read head e) (every (is_read head) es) h in
    by_test (is_standing e)
    (λ t. rw t (together (withdrawn_read_lem head e h'.0) h'.1))
    (λ t. rw t (together h'.0 (newest_reads head es h'.1)))

pub newest_none_held : (es : List Entry) → any is_held es ≡ false → any is_held (newest_withdrawn es) ≡ false
unfolding any newest_withdrawn
newest_none_held [] h = refl
newest_none_held (e ∷ es) h =
    let h' = neither (is_held e) (any is_held es) h in
    by_test (is_standing e)
    (λ t. let w : is_held (withdrawn_of e) ≡ false = unfold is_held in refl in rw t (or_false w h'.1))
    (λ t. rw t (or_false h'.0 (newest_none_held es h'.1)))

-- ---- the reads that stand below the newest
days_tail : (r : Entry) (ss : List Entry) → days_rise (r ∷ ss) ≡ true → days_rise ss ≡ true
unfolding days_rise
days_tail r [] h = refl
days_tail r (s ∷ ss) h = (both (is_later r s) (days_rise (s ∷ ss)) h).1

opens_tail : (head : Head) (r : Entry) (ss : List Entry) → opens_right head (r ∷ ss) ≡ true → opens_right head ss ≡ true
unfolding opens_right
opens_tail head r [] h = refl
opens_tail head r (s ∷ ss) h = (both (not (is_opening r.letter)) (opens_right head (s ∷ ss)) h).1

final_tail : (r : Entry) (ss : List Entry) → has_one_final (r ∷ ss) ≡ true → has_one_final ss ≡ true
unfolding has_one_final
final_tail r ss h = (both (not (is_final_read r && any is_final_read ss)) (has_one_final ss) h).1

-- days rise, so none below has the newest's day
older_days : (day value : ℕ) (s : Entry) (ss : List Entry) → days_rise (s ∷ ss) ≡ true → s.day ≤ day → any (has_read day value) ss ≡ false
unfolding days_rise any has_read
older_days day value s [] h l = refl
older_days day value s (t ∷ ss) h l =
    let h' = both (is_later s t) (days_rise (t ∷ ss)) h in
    let g : t.day < s.day = ltb-true _ _ h'.0 in
    rw (ne_eqb t.day day (omega arith)) (older_days day value t ss h'.1 (omega arith))

pub every_weaker : (p q : Entry → Bool) → ((e : Entry) → p e ≡ true → q e ≡ true) → (es : List Entry) → every p es ≡ true → every q es ≡ true
unfolding every
every_weaker p q w [] h = refl
every_weaker p q w (e ∷ es) h =
    let h' = both (p e) (every p es) h in
    together (w e h'.0) (every_weaker p q w es h'.1)

apart_tail : (r : Entry) (ss : List Entry) (w : Entry) → is_apart_from (r ∷ ss) w ≡ true → is_apart_from ss w ≡ true
unfolding any
apart_tail r ss w h =
    ap not (neither (has_read w.day w.value r) (any (has_read w.day w.value) ss) (not-true _ h)).1

-- ---- a sound list of kept entries stays sound
pub newest_sound : (head : Head) (r : Entry) (ss es : List Entry) → standing es ≡ r ∷ ss → any is_held es ≡ false → carries_right head ss ≡ true → are_sound head es ≡ true → are_sound head (newest_withdrawn es) ≡ true
unfolding are_apart
newest_sound head r ss es st none carry h =
    let c = clauses_of head es h in
    let rise : days_rise (r ∷ ss) ≡ true = rw st at c.rise in
    let opens : opens_right head (r ∷ ss) ≡ true = rw st at c.opens in
    let final : has_one_final (r ∷ ss) ≡ true = rw st at c.final in
    let apart : every (is_apart_from (r ∷ ss)) (withdrawn es) ≡ true = rw st at c.apart in
    let now = newest_standing r ss es st in
    of_clauses head (newest_withdrawn es) (record {
      reads = newest_reads head es c.reads;
      rise = rw now (days_tail r ss rise);
      opens = rw now (opens_tail head r ss opens);
      final = rw now (final_tail r ss final);
      held = none_held_right (newest_withdrawn es) (newest_none_held es none);
      apart = rw now (every_withdrawn (is_apart_from ss) r ss es st
          (ap not (older_days r.day r.value r ss rise (omega arith)))
          (every_weaker (is_apart_from (r ∷ ss)) (is_apart_from ss) (apart_tail r ss) (withdrawn es) apart));
      carry = rw now carry;
    })

-- ---- the newest standing entry is a kept one
newest_keep : (b : Bool) (e : Entry) (es : List Entry) → (is_standing e ≡ true → b ≡ true) → newest_at (keep_if b e es) ≡ newest_at (e ∷ es)
unfolding newest_at
newest_keep true e es h = refl
newest_keep false e es h = by_test (is_standing e) (λ t. absurd (apart (h t) refl)) (λ t. rw t)

pub newest_of_kept : (head : Head) (es : List Entry) → every (is_read head) es ≡ true → is_held_right es ≡ true → newest_at (those is_kept es) ≡ newest_at es
unfolding those
newest_of_kept head [] r h = refl
newest_of_kept head (e ∷ es) r h =
    rw (rest_kept head e es r h) (newest_keep (is_kept e) e es (λ t. rw t))
