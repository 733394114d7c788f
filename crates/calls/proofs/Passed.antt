-- What a submission that passes its checks is known to be: a good body, later than the last standing read, and of a type that may stand or be held.
use mathlib.Core.Path.{◌≡◌, refl, ap}
use mathlib.Core.Bool.{Bool, true, false, not, cond, ◌&&◌, ◌||◌}
use mathlib.Core.List.{List, [], ◌∷◌}
use Prim.Native.Nat.{ℕ, ◌≤◌, ◌<◌}
use native.Mathlib.Omega.{arith}
use borrow.Author.Tests.{eqb-false, ltb-true, ltb-false, leb-false, lt-ltb, le-leb, eq-eqb, not-false}
use lib.Dec.{eqb, leb, ltb}
use Rattle.arithmetic.specs.Powers.{ten_to}
use Rattle.terms.specs.declared.entry.Entry.{Entry}
use Rattle.terms.specs.declared.entry.Recent.{Recent}
use Rattle.terms.specs.declared.submission.Submission.{Submission}
use Rattle.terms.specs.Letter.{letter_i, letter_o, letter_f, letter_c, letter_u, letter_r, letter_t, letter_s, letter_x, letter_y, letter_e, is_known, is_opening, is_final, is_holdable, is_unchecked}
use Rattle.terms.specs.Profile.{takes}
use Rattle.terms.specs.Rule.{first_broken}
use Rattle.terms.specs.Entry.{kind_standing, slot_at, recent_of, indicator_not_set, indicator_false, indicator_true}
use Rattle.rules.specs.declared.detection.Detected.{Detected}
use Rattle.rules.specs.declared.detection.Detected.TheVariants.{NotRollover, Rollover, Indeterminate}
use Rattle.rules.specs.Detection.{is_not_rollover, detected}
use Rattle.rules.specs.Indicator.{indicated, indicated_flag}
use Rattle.rules.specs.Volume.{is_low_volume, is_high_volume}
use Rattle.rules.proofs.Queries.{query}
use Rattle.journal.specs.Journal.{Journal, journal_of, standing, withdrawn, is_there, on_day}
use Rattle.journal.specs.Numbers.{area_rules}
use Rattle.journal.specs.Sound.{any, has_read, holds, opens, is_in_range, is_final_read, exists, is_sound}
use Rattle.journal.specs.Inner.Follow.{is_after, may_stand}
use Rattle.calls.specs.Checks.{is_bad_content, is_other_type, is_bad_date, is_withdrawn_read, is_back_dated, is_unopened, is_at_later, is_opening_indicated, is_full, indicated_in, taken_flag, recent, same_day, content_rules, same_day_rules, order_rules, indicator_rules, volume_rules, submit_rules, submit_checks}
use Rattle.calls.specs.Calls.{entry_for}
use Rattle.calls.proofs.Bools.{together, right_or, apart, by_test}
use Rattle.journal.proofs.Bools.{neither}
use Rattle.calls.proofs.Broken.{Unbroken, have_others, past_group}

-- ---- the rules before those of volume
pub record Passed (s : Submission) (j : Journal) : Type 0 where
  pub content : is_bad_content j.head.dials s ≡ false
  pub type : is_other_type j.head.profile s ≡ false
  pub date : is_bad_date s ≡ false
  pub fresh : is_withdrawn_read s j.entries ≡ false
  pub own_day : is_there (same_day s j) ≡ false
  pub later : is_back_dated s (slot_at (standing j.entries) 0) ≡ false
  pub opened : is_unopened s (standing j.entries) ≡ false
  pub once : is_at_later s (standing j.entries) ≡ false
  pub plain : is_opening_indicated s ≡ false
  pub room : is_full j ≡ false

passed : (s : Submission) (j : Journal) → Unbroken (content_rules s j) → Unbroken (same_day_rules s j) → Unbroken (order_rules s j) → Passed s j
unfolding content_rules same_day_rules order_rules
passed s j c d o =
    record {
      content = c.1.0;
      type = c.1.1.0;
      date = c.1.1.1.0;
      fresh = c.1.1.1.1.0;
      own_day = d.1.1.1.0;
      later = o.0;
      opened = o.1.0;
      once = o.1.1.0;
      plain = o.1.1.1.0;
      room = o.1.1.1.1.1.0;
    }

-- a number of none of them
pub record IsOther (number : ℕ) (s : Submission) (a : List ℕ) : Type 0 where
  pub area : have_others number (area_rules a) ≡ true
  pub content : have_others number (content_rules s (journal_of a)) ≡ true
  pub same_day_lem : have_others number (same_day_rules s (journal_of a)) ≡ true
  pub order : have_others number (order_rules s (journal_of a)) ≡ true
  pub indicator : have_others number (indicator_rules s (journal_of a)) ≡ true

pub record Checked (s : Submission) (a : List ℕ) (number : ℕ) : Type 0 where
  pub sound : is_sound a ≡ true
  pub passed : Passed s (journal_of a)
  pub volume : first_broken (volume_rules s (journal_of a)) ≡ number

pub checked : (s : Submission) (a : List ℕ) (number : ℕ) → IsOther number s a → first_broken (submit_checks s a) ≡ number → Checked s a number
unfolding submit_checks submit_rules area_rules
checked s a number o h =
    let j = journal_of a in
    let found = past_group number (area_rules a) (submit_rules s j) o.area h in
    let content = past_group number (content_rules s j) _ o.content found.1 in
    let day = past_group number (same_day_rules s j) _ o.same_day_lem content.1 in
    let order = past_group number (order_rules s j) _ o.order day.1 in
    let indicator = past_group number (indicator_rules s j) (volume_rules s j) o.indicator order.1 in
    record {
      sound = not-false _ found.0.1.0;
      passed = passed s j content.0 day.0 order.0;
      volume = indicator.1;
    }

-- ---- the flag that the read is taken with
taken_at_most : (d : Detected) (indicator : ℕ) → leb (indicated_flag (indicated d indicator)) 1 ≡ true
unfolding indicated indicated_flag
taken_at_most Rollover i = by_test (eqb i indicator_false) (λ t. rw t) (λ t. rw t)
taken_at_most NotRollover i = by_test (eqb i indicator_true) (λ t. rw t) (λ t. rw t)
taken_at_most Indeterminate i = by_test (eqb i indicator_not_set) (λ t. rw t) (λ t. rw t (word_at_most (eqb i indicator_true)))
  where
    word_at_most : (b : Bool) → leb (cond b 1 0) 1 ≡ true
    word_at_most true = refl
    word_at_most false = refl

taken_plain : (indicator : ℕ) → indicated_flag (indicated NotRollover indicator) ≡ 0
unfolding indicated indicated_flag
taken_plain i = by_test (eqb i indicator_true) (λ t. rw t) (λ t. rw t)

-- where no read stands it is 0
taken_first : (s : Submission) (j : Journal) → standing j.entries ≡ [] → taken_flag s j ≡ 0
unfolding indicated_in detected is_not_rollover recent_of slot_at
taken_first s j h = rw h (taken_plain s.indicator)

-- ---- the body
opening_plain : (x y : Bool) → x && not y ≡ false → not x || y ≡ true
opening_plain true y h = not-false y h
opening_plain false y h = refl

module _ (s : Submission) (j : Journal) (p : Passed s j) where
  pub good_body : (kind : ℕ) → is_in_range j.head (entry_for kind s (taken_flag s j)) ≡ true
  unfolding is_in_range holds entry_for is_bad_content is_other_type is_bad_date is_opening_indicated indicated_in
  good_body kind =
      let c₁ = neither (not (is_known s.letter)) _ p.content in
      let c₂ = neither (ltb indicator_true s.indicator) _ c₁.1 in
      let c₃ = neither (ltb 1 s.reread) _ c₂.1 in
      together (ap not (neither (eqb s.day 0) _ p.date).0)
      (together (lt-ltb s.value (ten_to j.head.dials) (leb-false _ _ c₃.1))
      (together (not-false (takes j.head.profile s.letter) p.type)
      (together (le-leb s.indicator indicator_true (ltb-false _ _ c₂.0))
      (together (taken_at_most (detected j.head.dials s (recent_of (standing j.entries))) s.indicator)
      (opening_plain (is_opening s.letter) (eqb s.indicator indicator_not_set) p.plain)))))

  pub known : is_known s.letter ≡ true
  unfolding is_bad_content
  known = not-false (is_known s.letter) (neither (not (is_known s.letter)) _ p.content).0

  pub one_final : not (is_final s.letter && any is_final_read (standing j.entries)) ≡ true
  unfolding is_at_later
  one_final = ap not (neither (is_opening s.letter && exists (standing j.entries)) _ p.once).1

-- ---- it comes after the last standing read
pub day_after : (s : Submission) (r : Entry) (ss : List Entry) → is_back_dated s (slot_at (r ∷ ss) 0) ≡ false → is_there (on_day s.day (r ∷ ss)) ≡ false → ltb r.day s.day ≡ true
unfolding is_back_dated slot_at on_day is_there
day_after s r ss b d =
    by_test (eqb r.day s.day)
    (λ t. absurd (apart refl (rw t at d)))
    (λ t.
    let ne : r.day ≡ s.day → ⊥ = eqb-false _ _ t in
    let l : r.day ≤ s.day = ltb-false _ _ b in
    lt-ltb r.day s.day (omega arith))

and_true_false : (x : Bool) → x && true ≡ false → x ≡ false
and_true_false true h = h
and_true_false false h = refl

module _ (s : Submission) (j : Journal) (p : Passed s j) where
  pub may_stand_lem : (ss : List Entry) → standing j.entries ≡ ss → may_stand j.head (entry_for kind_standing s (taken_flag s j)) (slot_at ss 0) ≡ true
  unfolding may_stand opens entry_for slot_at is_unopened is_at_later exists
  may_stand_lem [] st =
      let o : not (is_opening s.letter) ≡ false = rw st at p.opened in
      right_or j.head.carried (together (not-false (is_opening s.letter) o) (eq-eqb _ 0 (taken_first s j st)))
  may_stand_lem (r ∷ ss) st =
      let later : is_back_dated s (slot_at (r ∷ ss) 0) ≡ false = rw st at p.later in
      let day : is_there (on_day s.day (r ∷ ss)) ≡ false = rw st at p.own_day in
      let once : is_opening s.letter && true || is_final s.letter && any is_final_read (r ∷ ss) ≡ false = rw st at p.once in
      together (day_after s r ss later day)
      (ap not (and_true_false (is_opening s.letter) (neither (is_opening s.letter && true) _ once).0))

  -- it is dated, later than the last standing read, and none of the withdrawn ones
  pub read_dated : 0 < s.day
  unfolding is_bad_date
  read_dated = let ne : s.day ≡ 0 → ⊥ = eqb-false _ _ (neither (eqb s.day 0) _ p.date).0 in omega arith

  pub read_later : (r : Entry) (ss : List Entry) → standing j.entries ≡ r ∷ ss → r.day < s.day
  read_later r ss st =
      let later : is_back_dated s (slot_at (r ∷ ss) 0) ≡ false = rw st at p.later in
      let day : is_there (on_day s.day (r ∷ ss)) ≡ false = rw st at p.own_day in
      ltb-true _ _ (day_after s r ss later day)

  pub read_fresh : any (has_read s.day s.value) (withdrawn j.entries) ≡ false
  unfolding is_withdrawn_read
  read_fresh = p.fresh

-- ---- a volume query: the type may be held, and a read stands before it
holdable_if : (f c u r t s x e : Bool) → f || (c || (u || (r || (t || (s || (x || e)))))) ≡ true → c || (u || (r || (t || (s || (f || (x || e)))))) ≡ true
holdable_if true c u r t s x e h = right_or c (right_or u (right_or r (right_or t (right_or s refl))))
holdable_if false c u r t s x e h = h

pub known_holdable : (l : ℕ) → is_known l ≡ true → is_unchecked l ≡ false → is_holdable l ≡ true
unfolding is_known is_unchecked is_holdable
known_holdable l k u =
    let u₁ = neither (eqb l letter_i) _ u in
    let u₂ = neither (eqb l letter_o) (eqb l letter_y) u₁.1 in
    holdable_if (eqb l letter_f) (eqb l letter_c) (eqb l letter_u) (eqb l letter_r) (eqb l letter_t) (eqb l letter_s) (eqb l letter_x) (eqb l letter_e)
    (rw (u₁.0, u₂.0, u₂.1) at k)

module _ (s : Submission) (n flag : ℕ) where
  -- either query
  abbrev pub IsQuery : Recent → Type 0
  IsQuery recent = is_low_volume n s flag recent || is_high_volume n s flag recent ≡ true

  pub query_checked : (recent : Recent) → IsQuery recent → is_unchecked s.letter ≡ false
  query_checked recent h = (query n s flag recent h).checked

  pub query_exists : (recent : Recent) → IsQuery recent → is_there recent.last ≡ true
  unfolding is_there
  query_exists recent h = rw (query n s flag recent h).stands

pub is_after_lem : (s : Submission) (e : Entry) (ss : List Entry) → e.day ≡ s.day → is_back_dated s (slot_at ss 0) ≡ false → is_there (on_day s.day ss) ≡ false → is_there (slot_at ss 0) ≡ true → is_after e (slot_at ss 0) ≡ true
unfolding slot_at is_there is_after
is_after_lem s e [] q b d t = t
is_after_lem s e (r ∷ ss) q b d t = rw q (day_after s r ss b d)
