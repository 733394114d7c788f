-- A read is kept out of an area: its withdrawn entry is there, or is gone and its day is no later than that of the oldest kept read. Which
-- number answers it follows from that, and 8 says it.
use mathlib.Core.Path.{◌≡◌, refl, ap, ◌∙◌}
use mathlib.Core.Logic.{◌⊎◌, inl, ⊎_elim}
use mathlib.Core.Bool.{Bool, true, false, ◌||◌, cond}
use mathlib.Core.List.{List, [], ◌∷◌, ◌++◌}
use Prim.Native.Nat.{ℕ, ◌≤◌, ◌<◌}
use native.Mathlib.Omega.{arith}
use borrow.Author.Tests.{eqb-true, eqb-false, eq-eqb, ltb-true, not-false}
use lib.Dec.{eqb}
use Rattle.terms.specs.declared.entry.Entry.{Entry}
use Rattle.terms.specs.declared.submission.Submission.{Submission}
use Rattle.terms.specs.Entry.{slot_at}
use Rattle.terms.specs.Number.{accepted, repeat, missing, content, other_type, date, withdrawn_read, read_at, read_eh, read_bf, back_dated}
use Rattle.terms.specs.Rule.{Rule, rule, first_broken}
use Rattle.register.specs.declared.head.Head.{Head}
use Rattle.register.specs.Area.{all_zero}
use Rattle.journal.specs.Journal.{Journal, journal_of, is_there, on_day, oldest_of, day_of}
use Rattle.journal.specs.Numbers.{area_rules}
use Rattle.journal.specs.Sound.{any, has_read, days_rise, is_sound}
use Rattle.calls.specs.Checks.{is_missing, is_bad_content, is_other_type, is_bad_date, is_withdrawn_read, is_repeat, is_at_on_day, is_other_indicator, is_back_dated, same_day, content_rules, same_day_rules, order_rules, indicator_rules, volume_rules, submit_rules, submit_checks}
use Rattle.calls.specs.FoldKeeps.{is_out_by_day, is_kept_out, is_wrong_by_itself, is_wrong_number}
use Rattle.calls.proofs.Bools.{both, left_or, right_or, or_false, by_test, apart}
use Rattle.journal.proofs.Bools.{neither}
use Rattle.calls.proofs.Broken.{Unbroken, past_group, no_number}
use Rattle.calls.proofs.Names.{is_read_lem}
use Rattle.calls.proofs.Passed.{day_after}
use Rattle.calls.proofs.Folded.{days_apart}
use Rattle.calls.proofs.Effects.{meter_head, standing_reads}
use Rattle.calls.proofs.Known.{effects}

-- the entry is gone: there is a carry, the day is no later than the oldest kept read, and no standing read has the day and value
pub record Gone (s : Submission) (head : Head) (ss : List Entry) : Type 0 where
  pub none : any (has_read s.day s.value) ss ≡ false
  pub carried : head.carried ≡ true
  pub early : s.day ≤ day_of (oldest_of ss)

pub record Out (s : Submission) (a : List ℕ) : Type 0 where
  pub sound : is_sound a ≡ true
  pub right : is_wrong_by_itself (meter_head a) s ≡ false
  pub entry : (is_withdrawn_read s (journal_of a).entries ≡ true) ⊎ Gone s (meter_head a) (standing_reads a)

-- ---- a repeat has the day and value of a standing read
repeat_stands : (s : Submission) (ss : List Entry) → is_repeat s (on_day s.day ss) ≡ true → any (has_read s.day s.value) ss ≡ true
unfolding is_repeat on_day any
repeat_stands s [] h = absurd (apart h refl)
repeat_stands s (e ∷ ss) h =
    by_test (eqb e.day s.day)
    (λ t.
    let v = (both (eqb e.value s.value) _ (both (eqb e.letter s.letter) _ (rw t at h)).1).0 in
    left_or _ (is_read_lem s.day s.value e (eqb-true _ _ t) (eqb-true _ _ v)))
    (λ t. right_or (has_read s.day s.value e) (repeat_stands s ss (rw t at h)))

-- ---- a submission that nothing is wrong with by itself is dated
pub is_dated_lem : (head : Head) (s : Submission) → is_wrong_by_itself head s ≡ false → 0 < s.day
unfolding is_wrong_by_itself is_bad_date
is_dated_lem head s right =
    let c = neither (is_missing s) _ right in
    let t = neither (is_bad_content head.dials s) _ c.1 in
    let d = neither (is_other_type head.profile s) _ t.1 in
    let ne = eqb-false s.day 0 (neither (eqb s.day 0) _ d.1).0 in
    omega arith

-- ---- one whose entry is gone is not after the last standing read
not_after : (s : Submission) (head : Head) (ss : List Entry) → 0 < s.day → Gone s head ss → days_rise ss ≡ true → is_there (on_day s.day ss) ≡ false → is_back_dated s (slot_at ss 0) ≡ false → ⊥
unfolding oldest_of day_of
not_after s head [] dated g rise o b = let early : s.day ≤ 0 = g.early in omega arith
not_after s head (r ∷ ss) dated g rise o b =
    let later : r.day < s.day = ltb-true _ _ (day_after s r ss b o) in
    omega (arith, g.early, days_apart r ss rise)

-- ---- the rules in their order, by which of them are broken
wrong_range : (m c t d : Bool) (rest : ℕ) → m || (c || (t || d)) ≡ true → is_wrong_number (cond m missing (cond c content (cond t other_type (cond d date rest)))) ≡ true
unfolding is_wrong_number
wrong_range true c t d rest h = refl
wrong_range false true t d rest h = refl
wrong_range false false true d rest h = refl
wrong_range false false false true rest h = refl
wrong_range false false false false rest h = absurd (apart h refl)

none_wrong : (m c t d : Bool) (rest : ℕ) → m || (c || (t || d)) ≡ false → cond m missing (cond c content (cond t other_type (cond d date rest))) ≡ rest
none_wrong true c t d rest h = absurd (apart refl h)
none_wrong false true t d rest h = absurd (apart refl h)
none_wrong false false true d rest h = absurd (apart refl h)
none_wrong false false false true rest h = absurd (apart refl h)
none_wrong false false false false rest h = refl

day_range : (r a i o b : Bool) (rest : ℕ) → r ≡ false → (o ≡ false → b ≡ false → ⊥) → is_out_by_day (cond r repeat (cond a read_at (cond i read_eh (cond o read_bf (cond b back_dated rest))))) ≡ true
unfolding is_out_by_day
day_range true a i o b rest new out = absurd (apart refl new)
day_range false true i o b rest new out = refl
day_range false false true o b rest new out = refl
day_range false false false true b rest new out = refl
day_range false false false false true rest new out = refl
day_range false false false false false rest new out = absurd (out refl refl)

module _ (s : Submission) (a : List ℕ) where
  abbrev j : Journal
  j = journal_of a

  -- the rules after 8
  abbrev after_content : List Rule
  after_content = same_day_rules s j ++ (order_rules s j ++ (indicator_rules s j ++ volume_rules s j))

  abbrev number : ℕ
  number = first_broken (submit_checks s a)

  -- 8, and then the others
  abbrev from_eight : ℕ
  from_eight = cond (is_withdrawn_read s j.entries) withdrawn_read (first_broken after_content)

  module _ (sound : is_sound a ≡ true) where
    by_content : number ≡ cond (is_missing s) missing (cond (is_bad_content j.head.dials s) content (cond (is_other_type j.head.profile s) other_type (cond (is_bad_date s) date from_eight)))
    unfolding submit_checks area_rules submit_rules content_rules
    by_content = by_test (all_zero a) (λ zero. absurd (effects.apart a zero sound)) (λ h. rw (h, sound))

    pub wrong_number : is_wrong_by_itself j.head s ≡ true → is_wrong_number number ≡ true
    unfolding is_wrong_by_itself
    wrong_number h = ap is_wrong_number by_content ∙ wrong_range (is_missing s) (is_bad_content j.head.dials s) (is_other_type j.head.profile s) (is_bad_date s) from_eight h

    right_number : is_wrong_by_itself j.head s ≡ false → number ≡ from_eight
    unfolding is_wrong_by_itself
    right_number h = by_content ∙ none_wrong (is_missing s) (is_bad_content j.head.dials s) (is_other_type j.head.profile s) (is_bad_date s) from_eight h

  -- ---- what answers a read that is kept out
  module _ (o : Out s a) where
    pub there_number : is_withdrawn_read s j.entries ≡ true → number ≡ withdrawn_read
    there_number w = right_number o.sound o.right ∙ rw w

    gone_range : Gone s (meter_head a) (standing_reads a) → is_out_by_day (first_broken after_content) ≡ true
    unfolding same_day_rules order_rules
    gone_range g =
        let ss = standing_reads a in
        let new : is_repeat s (same_day s j) ≡ false = by_test (is_repeat s (same_day s j)) (λ h. absurd (apart (repeat_stands s ss h) g.none)) (λ h. h) in
        day_range (is_repeat s (same_day s j)) (is_at_on_day s (same_day s j)) (is_other_indicator s (same_day s j)) (is_there (same_day s j)) (is_back_dated s (slot_at ss 0)) _ new
        (not_after s (meter_head a) ss (is_dated_lem (meter_head a) s o.right) g (effects.rise a o.sound))

    pub gone_number : is_withdrawn_read s j.entries ≡ false → is_out_by_day number ≡ true
    gone_number w =
        ⊎_elim
        (λ there. absurd (apart there w))
        (λ g. ap is_out_by_day (right_number o.sound o.right ∙ rw w) ∙ gone_range g)
        o.entry

    pub out_number : is_kept_out number ≡ true
    unfolding is_kept_out
    out_number =
        by_test (is_withdrawn_read s j.entries)
        (λ w. left_or (is_out_by_day number) (eq-eqb number withdrawn_read (there_number w)))
        (λ w. right_or (eqb number withdrawn_read) (gone_number w))

  -- ---- 8 says that the entry is there, and that nothing comes before it
  abbrev own_rules : List Rule
  own_rules =
      rule missing (is_missing s)
      ∷ rule content (is_bad_content j.head.dials s)
      ∷ rule other_type (is_other_type j.head.profile s)
      ∷ rule date (is_bad_date s)
      ∷ []

  eight_first : from_eight ≡ withdrawn_read → is_withdrawn_read s j.entries ≡ true
  unfolding same_day_rules order_rules indicator_rules volume_rules
  eight_first h =
      by_test (is_withdrawn_read s j.entries)
      (λ w. w)
      (λ w. absurd (let z : accepted ≡ withdrawn_read = no_number withdrawn_read after_content refl (rw w at h) in let f : ⊥ = omega arith in f))

  module _ (h : number ≡ withdrawn_read) where
    past_area : Unbroken (area_rules a) × (first_broken (submit_rules s j) ≡ withdrawn_read)
    unfolding submit_checks area_rules
    past_area = past_group withdrawn_read (area_rules a) (submit_rules s j) refl h

    past_own : Unbroken own_rules × (from_eight ≡ withdrawn_read)
    unfolding submit_rules content_rules
    past_own = past_group withdrawn_read own_rules (rule withdrawn_read (is_withdrawn_read s j.entries) ∷ after_content) refl past_area.1

    pub eight_there : is_withdrawn_read s j.entries ≡ true
    eight_there = eight_first past_own.1

    pub eight_out : Out s a
    unfolding area_rules is_wrong_by_itself
    eight_out =
        let u = past_own.0 in
        record {
          sound = not-false _ past_area.0.1.0;
          right = or_false u.0 (or_false u.1.0 (or_false u.1.1.0 u.1.1.1.0));
          entry = inl eight_there;
        }
