-- What was counted of a sound area says where its entries are.
use Rattle.std.specs.Prelude.{Some, None}
use mathlib.Core.Path.{◌≡◌, refl, ap, sym, ◌∙◌}
use mathlib.Core.Bool.{Bool, true, false, cond}
use mathlib.Core.List.{List, [], ◌∷◌}
use Prim.Native.Nat.{ℕ, zero, suc, ◌+◌, ◌-◌, ◌≤◌, ◌<◌}
use native.Mathlib.Omega.{arith}
use borrow.Author.Tests.{ltb-true, ltb-false, eqb-true, eqb-false}
use mir.Val.{bool_byte}
use lib.Dec.{eqb, ltb}
use lib.ListN.{length, take, drop}
use Rattle.terms.specs.declared.entry.Entry.{Entry}
use Rattle.terms.specs.Entry.{is_standing, is_held, those, slot_at}
use Rattle.register.specs.declared.head.Head.{Head}
use Rattle.register.specs.Entries.{entry_start, entry_at}
use Rattle.register.specs.Head.{head_of, head_bytes, most_entries, body_of}
use Rattle.register.proofs.Body.{body_room, head_room}
use Rattle.judge.specs.declared.area.Summary.{Summary}
use Rattle.journal.specs.Journal.{Journal, journal_of, entries_to, standing, kept, held_of, is_there, newest_at, day_of}
use Rattle.journal.specs.Sound.{are_in_order, are_sound, days_rise}
use Rattle.judge.specs.Inner.Judged.{counts_of, summary_of, Counted}
use Rattle.journal.proofs.Bools.{false_is, both}
use Rattle.journal.proofs.Entries.{one_more, length_entries, count_at_most}
use Rattle.journal.proofs.InOrder.{days_rise_lem}
use Rattle.judge.proofs.Newest.{none_there, newest_entry, kept_all}
use Rattle.judge.proofs.Verdicts.{head_is, entries_are, journal_is, body_sound}
use Rattle.reads.specs.Inner.Room.{has_room, slot_in}
use Rattle.reads.proofs.Lent.{room_is, lent_is}

-- ---- the held read of some entries, by how many are kept
module _ (a : List ℕ) where
  none_held : (m k : ℕ) → k ≡ cond (is_there (held_of (entries_to m a))) (length (entries_to m a) - 1) (length (entries_to m a)) → k ≡ m → held_of (entries_to m a) ≡ None
  unfolding entries_to held_of is_there
  none_held zero k is all = refl
  none_held (suc n) k is all = cases (is_held (entry_at a (entry_start n))) refl where
    cases : (b : Bool) → is_held (entry_at a (entry_start n)) ≡ b → held_of (entries_to (suc n) a) ≡ None
    cases true h =
        let less : k ≡ suc (length (entries_to n a)) - 1 = rw h at is in
        absurd (omega (arith, length_entries n a))
    cases false h = rw h

  one_held : (m k : ℕ) → k ≡ cond (is_there (held_of (entries_to m a))) (length (entries_to m a) - 1) (length (entries_to m a)) → (k ≡ m → ⊥) → (suc k ≡ m) × (held_of (entries_to m a) ≡ Some (entry_at a (entry_start k)))
  unfolding entries_to held_of is_there
  one_held zero k is some = absurd (some is)
  one_held (suc n) k is some = cases (is_held (entry_at a (entry_start n))) refl where
    cases : (b : Bool) → is_held (entry_at a (entry_start n)) ≡ b → (suc k ≡ suc n) × (held_of (entries_to (suc n) a) ≡ Some (entry_at a (entry_start k)))
    cases true h =
        let less : k ≡ suc (length (entries_to n a)) - 1 = rw h at is in
        let at : k ≡ n = omega (arith, length_entries n a) in
        (ap suc at, rw (h, at))
    cases false h =
        let all : k ≡ suc (length (entries_to n a)) = rw h at is in
        absurd (some (all ∙ ap suc (length_entries n a)))

-- ---- the last standing one of some entries stands, and where none does no entry comes before it
module _ (a : List ℕ) where
  newest_stands : (m : ℕ) → (length (standing (entries_to m a)) ≡ 0 → ⊥) → is_standing (entry_at a (entry_start (newest_at (entries_to m a)))) ≡ true
  unfolding entries_to those newest_at
  newest_stands zero h = absurd (h refl)
  newest_stands (suc k) h = cases (is_standing (entry_at a (entry_start k))) refl (newest_stands k) where
    cases : (b : Bool) → is_standing (entry_at a (entry_start k)) ≡ b → ((length (standing (entries_to k a)) ≡ 0 → ⊥) → is_standing (entry_at a (entry_start (newest_at (entries_to k a)))) ≡ true) → is_standing (entry_at a (entry_start (newest_at (entries_to (suc k) a)))) ≡ true
    cases true e rest = rw (e, length_entries k a) e
    cases false e rest = rw e (rest (rw e at h))

none_comes_before : (es : List Entry) → length (standing es) ≡ 0 → newest_at es ≡ 0
unfolding those newest_at
none_comes_before [] h = refl
none_comes_before (e ∷ es) h = cases (is_standing e) refl (none_comes_before es) where
  cases : (b : Bool) → is_standing e ≡ b → (length (standing es) ≡ 0 → newest_at es ≡ 0) → newest_at (e ∷ es) ≡ 0
  cases true s rest = absurd (omega (arith, rw s at h))
  cases false s rest = rw s (rest (rw s at h))

-- ---- a sound area
module _ (a : List ℕ) (t : Summary) (is : Counted a t) where
  abbrev body : List ℕ
  body = body_of a

  pub head_of_lem : t.head ≡ head_of a
  head_of_lem = head_is a t is.sound is.summary

  pub in_body : (journal_of a).entries ≡ entries_to t.entries body
  in_body = ap (λ (j : Journal). j.entries) (journal_is a t is.sound is.summary)

  in_order : are_in_order t.head (entries_to t.entries body) ≡ true
  unfolding are_sound
  in_order = (both (are_in_order t.head (entries_to t.entries body)) _ (body_sound a t is.sound is.summary)).0

  pub rises : days_rise (standing (journal_of a).entries) ≡ true
  rises = rw in_body (days_rise_lem t.head (entries_to t.entries body) in_order)

  few : t.entries ≤ most_entries t.head
  few = rw (head_of_lem, entries_are a t is.sound is.summary) (count_at_most a)

  -- all of them are there, and no more of them than a byte counts
  pub room : entry_start t.entries ≤ length body
  room = omega (arith, rw (← head_of_lem) at (body_room a is.long), few)

  pub few_entries : t.entries < 256
  few_entries = omega (arith, few, head_room t.head)

  -- what was counted
  pub day_is : t.day ≡ day_of (slot_at (standing (journal_of a).entries) 0)
  unfolding summary_of
  day_is = ap (λ (u : Summary). u.day) is.summary

  pub stands_is : t.counts.standing ≡ length (standing (journal_of a).entries)
  unfolding summary_of counts_of
  stands_is = ap (λ (u : Summary). u.counts.standing) is.summary

  newest_is : t.counts.newest ≡ newest_at (journal_of a).entries
  unfolding summary_of counts_of
  newest_is = ap (λ (u : Summary). u.counts.newest) is.summary

  kept_is : t.counts.kept ≡ kept (journal_of a).entries
  unfolding summary_of counts_of
  kept_is = ap (λ (u : Summary). u.counts.kept) is.summary

  newest_of_all : t.counts.newest ≡ newest_at (entries_to t.entries body)
  newest_of_all = newest_is ∙ ap newest_at in_body

  stand_of_all : t.counts.standing ≡ length (standing (entries_to t.entries body))
  stand_of_all = stands_is ∙ ap (λ (es : List Entry). length (standing es)) in_body

  -- ---- the last standing read
  pub none_stand : t.counts.standing ≡ 0 → standing (journal_of a).entries ≡ []
  none_stand h = none_there _ (sym stands_is ∙ h)

  module _ (some : t.counts.standing ≡ 0 → ⊥) where
    newest_of : (t.counts.newest < t.entries) × (standing (entries_to t.entries body) ≡ entry_at body (entry_start t.counts.newest) ∷ standing (entries_to t.counts.newest body))
    newest_of = rw newest_of_all (newest_entry body t.entries (λ z. some (stand_of_all ∙ z)))

    pub newest_below : t.counts.newest < t.entries
    newest_below = newest_of.0

    pub last_stands : standing (journal_of a).entries ≡ entry_at body (entry_start t.counts.newest) ∷ standing (entries_to t.counts.newest body)
    last_stands = rw in_body newest_of.1

    -- all that stand are among the entries up to the last one
    pub to_newest : standing (entries_to (t.counts.newest + 1) body) ≡ standing (journal_of a).entries
    unfolding entries_to those
    to_newest =
        let stands = rw (← newest_of_all) at (newest_stands body t.entries (λ z. some (stand_of_all ∙ z))) in
        rw (one_more, stands) (sym last_stands)

  -- ---- the held read
  keeps : t.counts.kept ≡ cond (is_there (held_of (entries_to t.entries body))) (length (entries_to t.entries body) - 1) (length (entries_to t.entries body))
  keeps = kept_is ∙ ap (λ (es : List Entry). kept es) in_body ∙ kept_all t.head (entries_to t.entries body) in_order

  pub held_none : t.counts.kept ≡ t.entries → None ≡ held_of (journal_of a).entries
  held_none h = sym (rw in_body (none_held body t.entries t.counts.kept keeps h))

  pub held_below : (t.counts.kept ≡ t.entries → ⊥) → t.counts.kept < t.entries
  held_below h = omega (arith, (one_held body t.entries t.counts.kept keeps h).0)

  pub held_in : (t.counts.kept ≡ t.entries → ⊥) → Some (entry_at body (entry_start t.counts.kept)) ≡ held_of (journal_of a).entries
  held_in h = rw in_body (sym (one_held body t.entries t.counts.kept keeps h).1)

  -- ---- the same as it is lent to a question, from the head's end on
  lent_body : drop (head_bytes t.head) a ≡ body
  unfolding body_of
  lent_body = ap (λ (h : Head). drop (head_bytes h) a) head_of_lem

  part_is : {start : ℕ} → start ≡ head_bytes t.head → take (length a - start) (drop start a) ≡ body
  part_is starts = lent_is a t.head starts ∙ lent_body

  module _ (some : t.counts.standing ≡ 0 → ⊥) where
    pub newest_room : has_room a t.head (suc t.counts.newest) ≡ true
    newest_room = room_is a t.head (suc t.counts.newest) is.long (omega (arith, few, newest_below some))

    pub lent_last : {start : ℕ} → start ≡ head_bytes t.head → standing (journal_of a).entries ≡ entry_at (take (length a - start) (drop start a)) (entry_start t.counts.newest) ∷ standing (entries_to t.counts.newest (take (length a - start) (drop start a)))
    lent_last starts = rw (part_is starts) (last_stands some)

    pub newest_in : slot_in a t.head t.counts.newest ≡ slot_at (standing (journal_of a).entries) 0
    unfolding slot_in slot_at
    newest_in = rw (newest_room, lent_body, last_stands some)

  pub no_room : has_room a t.head (suc t.counts.newest) ≡ false → standing (journal_of a).entries ≡ []
  no_room h = cases (eqb t.counts.standing 0) refl where
    cases : (b : Bool) → eqb t.counts.standing 0 ≡ b → standing (journal_of a).entries ≡ []
    cases true z = none_stand (eqb-true _ _ z)
    cases false z = false_is (sym h ∙ newest_room (eqb-false _ _ z))

  all_stand : (b : Bool) → ltb 0 t.counts.standing ≡ b → standing (entries_to (t.counts.newest + bool_byte b) body) ≡ standing (journal_of a).entries
  unfolding entries_to those
  all_stand true h = to_newest (λ z. omega (arith, ltb-true 0 t.counts.standing h))
  all_stand false h =
      let none : t.counts.standing ≡ 0 = omega (arith, ltb-false 0 t.counts.standing h) in
      rw (newest_of_all, none_comes_before (entries_to t.entries body) (sym stand_of_all ∙ none), none_stand none)

  pub lent_all : {start : ℕ} → start ≡ head_bytes t.head → standing (entries_to (t.counts.newest + bool_byte (ltb 0 t.counts.standing)) (take (length a - start) (drop start a))) ≡ standing (journal_of a).entries
  lent_all starts = rw (part_is starts) (all_stand (ltb 0 t.counts.standing) refl)

  pub slot_held : (t.counts.kept ≡ t.entries → ⊥) → slot_in a t.head t.counts.kept ≡ held_of (journal_of a).entries
  unfolding slot_in
  slot_held h = rw (room_is a t.head (suc t.counts.kept) is.long (omega (arith, few, held_below h)), lent_body) (held_in h)
