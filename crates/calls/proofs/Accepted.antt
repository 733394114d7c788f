-- A read that is accepted, or held for its volume, may follow the kept entries of its journal.
use Rattle.std.specs.Prelude.{Option}
use mathlib.Core.Path.{◌≡◌, refl, sym, ap, ◌∙◌}
use mathlib.Core.Bool.{Bool, true, false, not, ◌&&◌, ◌||◌, cond}
use mathlib.Core.List.{List, [], ◌∷◌}
use mathlib.Core.Logic.{◌⊎◌, inl, inr}
use Prim.Native.Nat.{ℕ, ◌<◌}
use native.Mathlib.Omega.{arith}
use borrow.Author.Tests.{eqb-true, eqb-false, ne_eqb, eq-eqb, not-true}
use lib.Dec.{eqb}
use Rattle.register.specs.declared.head.Head.{Head}
use Rattle.register.specs.Head.{head_of, most_entries}
use Rattle.terms.specs.declared.entry.Entry.{Entry}
use Rattle.terms.specs.declared.submission.Submission.{Submission}
use Rattle.terms.specs.Letter.{is_holdable}
use Rattle.terms.specs.Number.{accepted, low, high, over_capacity}
use Rattle.terms.specs.Rule.{first_broken}
use Rattle.terms.specs.Entry.{kind_standing, kind_held, is_standing, is_withdrawn, is_held, those, slot_at, recent_of}
use Rattle.rules.specs.Volume.{is_low_volume, is_high_volume, is_over_capacity}
use Rattle.journal.specs.Journal.{Journal, journal_of, is_kept, standing, withdrawn, kept, held_of, is_there}
use Rattle.journal.specs.Numbers.{area_rules}
use Rattle.journal.specs.Sound.{every, any, is_in_range, is_read, is_final_read, has_read, is_apart_from, are_apart, carries_right, are_in_order, are_sound}
use Rattle.journal.specs.Inner.Follow.{is_after, may_stand, may_follow}
use Rattle.journal.proofs.InOrder.{in_order_more}
use Rattle.calls.specs.Checks.{is_withdrawn_read, is_full, taken_flag, recent, content_rules, same_day_rules, order_rules, indicator_rules, volume_rules, submit_checks}
use Rattle.calls.specs.Calls.{entry_for, is_volume_query}
use Rattle.calls.proofs.Bools.{both, together, either_of, or_false, left_or, right_or, by_test}
use Rattle.journal.proofs.Bools.{neither}
use Rattle.calls.proofs.Passed.{Passed, IsOther, Checked, checked, good_body, known, one_final, may_stand_lem, known_holdable, IsQuery, query_checked, query_exists, is_after_lem}
use Rattle.calls.proofs.Lists.{none_held, none_held_empty, standing_kept, withdrawn_kept}
use Rattle.calls.proofs.Carried.{carries_more}
use Rattle.calls.proofs.Clauses.{kept_sound}
use Rattle.calls.proofs.Shape.{sounds, kept_at_most}

-- ---- a read follows kept entries, to stand or to be held
module _ (head : Head) (e : Entry) (last held : Option Entry) (ended : Bool) (body : is_in_range head e ≡ true) (none : is_there held ≡ false) (final : not (is_final_read e && ended) ≡ true) where
  follow_standing : is_standing e ≡ true → is_held e ≡ false → may_stand head e last ≡ true → may_follow head e last held ended ≡ true
  unfolding may_follow is_read
  follow_standing st nh stands =
      together (together (left_or (is_withdrawn e || is_held e) st) body)
      (together (ap not none)
      (together (right_or (not (is_standing e)) (together stands final)) (left_or _ (ap not nh))))

  follow_held : is_standing e ≡ false → is_held e ≡ true → is_holdable e.letter ≡ true → is_after e last ≡ true → may_follow head e last held ended ≡ true
  unfolding may_follow is_read
  follow_held ns h holdable after =
      together (together (right_or (is_standing e) (right_or (is_withdrawn e) h)) body)
      (together (ap not none)
      (together (left_or _ (ap not ns)) (right_or (not (is_held e)) (together holdable (together after final)))))

-- ---- it is apart from the withdrawn reads
eqb_sym : (x y : ℕ) → eqb x y ≡ eqb y x
eqb_sym x y = by_test (eqb y x) (λ t. eq-eqb x y (sym (eqb-true y x t)) ∙ sym t) (λ t. ne_eqb x y (λ q. eqb-false y x t (sym q)) ∙ sym t)

module _ (e : Entry) (ss : List Entry) where
  apart_from_more : (ws : List Entry) → any (has_read e.day e.value) ws ≡ false → every (is_apart_from ss) ws ≡ true → every (is_apart_from (e ∷ ss)) ws ≡ true
  unfolding every any has_read
  apart_from_more [] h g = refl
  apart_from_more (w ∷ ws) h g =
      let h' = neither (has_read e.day e.value w) (any (has_read e.day e.value) ws) h in
      let g' = both (is_apart_from ss w) (every (is_apart_from ss) ws) g in
      let n : has_read w.day w.value e ≡ false = rw (eqb_sym e.day w.day, eqb_sym e.value w.value) h'.0 in
      together (ap not (or_false n (not-true _ g'.0))) (apart_from_more ws h'.1 g'.1)

-- ---- the journal with it
module _ (s : Submission) (j : Journal) (p : Passed s j) (sound : are_sound j.head j.entries ≡ true) where
  abbrev ks : List Entry
  ks = those is_kept j.entries

  abbrev head : Head
  head = j.head

  abbrev taken : ℕ → Entry
  taken kind = entry_for kind s (taken_flag s j)

  none : is_there (held_of ks) ≡ false
  unfolding is_there
  none = rw (none_held_empty ks (none_held j.entries))

  kept_parts : (are_in_order head ks ≡ true) × (are_apart (standing ks) (withdrawn ks) ≡ true) × (carries_right head (standing ks) ≡ true)
  unfolding are_sound
  kept_parts =
      let p = both (are_in_order head ks) _ (kept_sound head j.entries sound) in
      let q = both (are_apart (standing ks) (withdrawn ks)) (carries_right head (standing ks)) p.1 in
      (p.0, q.0, q.1)

  final : (kind : ℕ) → not (is_final_read (taken kind) && any is_final_read (standing ks)) ≡ true
  unfolding entry_for
  final kind = rw (standing_kept j.entries) (one_final s j p)

  more : (kind : ℕ) → may_follow head (taken kind) (slot_at (standing ks) 0) (held_of ks) (any is_final_read (standing ks)) ≡ true → are_in_order head (taken kind ∷ ks) ≡ true
  more kind f = in_order_more head (taken kind) ks ∙ together f kept_parts.0

  pub may_stand_sound : are_sound head (taken kind_standing ∷ ks) ≡ true
  unfolding are_sound are_apart those entry_for is_standing is_withdrawn is_held is_withdrawn_read
  may_stand_sound =
      let f = follow_standing head (taken kind_standing) (slot_at (standing ks) 0) (held_of ks) (any is_final_read (standing ks))
      (good_body s j p kind_standing) none (final kind_standing) refl refl (rw (standing_kept j.entries) (may_stand_lem s j p _ refl))
      in
      together (more kind_standing f)
      (together
      (apart_from_more (taken kind_standing) (standing ks) (withdrawn ks) (rw (withdrawn_kept j.entries) p.fresh) kept_parts.1)
      (carries_more head (taken kind_standing) (standing ks) kept_parts.2))

  pub may_be_held_sound : IsQuery s j.head.dials (taken_flag s j) (recent s j) → are_sound head (taken kind_held ∷ ks) ≡ true
  unfolding are_sound those entry_for is_standing is_withdrawn is_held recent_of
  may_be_held_sound q =
      let holdable = known_holdable s.letter (known s j p) (query_checked s j.head.dials (taken_flag s j) (recent s j) q) in
      let after = is_after_lem s (taken kind_held) (standing j.entries) refl p.later p.own_day (query_exists s j.head.dials (taken_flag s j) (recent s j) q) in
      let f = follow_held head (taken kind_held) (slot_at (standing ks) 0) (held_of ks) (any is_final_read (standing ks))
      (good_body s j p kind_held) none (final kind_held) refl refl holdable (rw (standing_kept j.entries) after)
      in
      together (more kind_held f) (together kept_parts.1 kept_parts.2)

-- ---- by the number of its checks
pub by_query : (P : ℕ → Type 0) (k : ℕ) → is_volume_query k ≡ true → P low → P high → P k
by_query P k q l h =
    either_of (eqb k low) (eqb k high) q
    (λ t. rw (eqb-true k low t) l)
    (λ t. rw (eqb-true k high t) h)

query_number : (l h o : Bool) (k : ℕ) → is_volume_query k ≡ true → cond l low (cond h high (cond o over_capacity accepted)) ≡ k → l || h ≡ true
query_number true h o k q e = refl
query_number false true o k q e = refl
query_number false false true k q e = rw (← e) at q
query_number false false false k q e = rw (← e) at q

-- 0, 19 and 20 are numbers of none of the groups before that of volume
is_other : (s : Submission) (a : List ℕ) (k : ℕ) → (k ≡ accepted) ⊎ (is_volume_query k ≡ true) → IsOther k s a
unfolding area_rules content_rules same_day_rules order_rules indicator_rules
is_other s a k (inl e) = rw e (record { area = refl; content = refl; same_day_lem = refl; order = refl; indicator = refl })
is_other s a k (inr q) =
    by_query (λ n. IsOther n s a) k q
    (record { area = refl; content = refl; same_day_lem = refl; order = refl; indicator = refl })
    (record { area = refl; content = refl; same_day_lem = refl; order = refl; indicator = refl })

module _ (s : Submission) (a : List ℕ) where
  abbrev number : ℕ
  number = first_broken (submit_checks s a)

  module _ (c : Checked s a number) where
    -- there is room for it
    pub has_room_lem : kept (journal_of a).entries < most_entries (head_of a)
    unfolding is_full journal_of
    has_room_lem =
        let ne : kept (journal_of a).entries ≡ most_entries (head_of a) → ⊥ = eqb-false _ _ c.passed.room in
        let l = kept_at_most a c.sound in
        omega arith

  pub accepted_checked : number ≡ accepted → Checked s a number
  accepted_checked h = checked s a number (is_other s a number (inl h)) refl

  pub query_passed : is_volume_query number ≡ true → Checked s a number
  query_passed h = checked s a number (is_other s a number (inr h)) refl

  pub accepted_sound : number ≡ accepted → are_sound (head_of a) (entry_for kind_standing s (taken_flag s (journal_of a)) ∷ those is_kept (journal_of a).entries) ≡ true
  unfolding journal_of
  accepted_sound h = let c = accepted_checked h in may_stand_sound s (journal_of a) c.passed (sounds a c.sound).sound

  pub query_sound : is_volume_query number ≡ true → are_sound (head_of a) (entry_for kind_held s (taken_flag s (journal_of a)) ∷ those is_kept (journal_of a).entries) ≡ true
  unfolding volume_rules journal_of
  query_sound h =
      let c = query_passed h in
      let j = journal_of a in
      let flag = taken_flag s j in
      let low? = is_low_volume j.head.dials s flag (recent s j) in
      let high? = is_high_volume j.head.dials s flag (recent s j) in
      let over? = is_over_capacity j.head.dials j.head.capacity s flag (recent s j) in
      may_be_held_sound s j c.passed (sounds a c.sound).sound (query_number low? high? over? number h c.volume)
