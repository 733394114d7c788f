-- The decision, stage by stage: what the area is, the three groups of numbers that write nothing, and the judgement.
use Rattle.std.specs.Prelude.{Result, Ok, Err}
use mathlib.Core.Path.{◌≡◌, refl, ap, ◌∙◌}
use mathlib.Core.Bool.{Bool, true, false, cond}
use mathlib.Core.List.{List, [], ◌∷◌, ◌++◌}
use Prim.Native.Nat.{ℕ}
use lib.Dec.{eqb}
use lib.IntN.{ℤ}
use lib.ListN.{length}
use native.Mathlib.Omega.{arith}
use Rattle.std.proofs.lemmas.Bool.Decides.{nat_tests}
use Rattle.terms.specs.declared.refusal.Refusal.{Refusal}
use Rattle.terms.specs.declared.refusal.Refusal.TheVariants.{NoMeter, Damaged, Ee, Ef}
use Rattle.terms.specs.declared.submission.Submission.{Submission}
use Rattle.terms.specs.Answer.{answer}
use Rattle.terms.specs.Entry.{kind_standing, kind_held, slot_at, recent_of}
use Rattle.terms.specs.Number.{accepted, read_ee, read_ef}
use Rattle.terms.specs.Refusal.{number_of, number_in}
use Rattle.terms.specs.Rule.{rule, first_broken}
use Rattle.terms.proofs.Refusals.{passed_on}
use Rattle.rules.specs.declared.detection.Detected.{Detected}
use Rattle.rules.specs.declared.detection.Detected.TheVariants.{NotRollover, Rollover, Indeterminate}
use Rattle.rules.specs.Indicator.{indicated, indicated_flag}
use Rattle.rules.specs.Volume.{advance_over, volume_number}
use Rattle.register.specs.Area.{area_bytes, all_zero}
use Rattle.register.specs.Entries.{put_entry}
use Rattle.register.specs.Head.{entry_offset, offset_after}
use Rattle.journal.specs.Journal.{Journal, journal_of, standing, kept}
use Rattle.journal.specs.Numbers.{area_rules}
use Rattle.journal.specs.Sound.{is_sound}
use Rattle.judge.specs.declared.area.Summary.{Summary}
use Rattle.judge.specs.Inner.Judged.{summary_of}
use Rattle.judge.specs.Inner.Judged as found
use Rattle.calls.specs.declared.call.Reply.TheVariants.{Answered}
use Rattle.calls.specs.Calls.{Acted, acted, refused, entry_for, written, is_volume_query, submitted_advance, submit_in}
use Rattle.calls.specs.Checks.{is_denied, is_unclear, indicated_in, content_rules, same_day_rules, order_rules, indicator_rules, volume_rules, submit_rules, submit_checks}
use Rattle.submit.specs.Inner.Decision.{carried_out, submitted, checked_rules, judged_rules}
use Rattle.submit.proofs.Groups.{ends, passes, stops, goes_on, one_group}

-- ---- 17 and 18 are what the indicator makes of the detection
by_indicator : (found : Detected) (indicator : ℕ) → number_in (indicated found indicator) ≡ first_broken (rule read_ee (is_denied (indicated found indicator)) ∷ rule read_ef (is_unclear (indicated found indicator)) ∷ [])
unfolding indicated number_of is_denied is_unclear
by_indicator Rollover indicator = grind (arith, nat_tests)
by_indicator NotRollover indicator = grind (arith, nat_tests)
by_indicator Indeterminate indicator = grind (arith, nat_tests)

-- ---- before the judgement: a number of the three groups, in their order
module _ (s : Submission) (j : Journal) where
  pub by_content : (refusal : Refusal) → number_of refusal ≡ first_broken (content_rules s j) → number_of refusal ≡ first_broken (checked_rules s j)
  unfolding content_rules checked_rules
  by_content = ends (content_rules s j) (same_day_rules s j ++ order_rules s j) refl

  module _ (content : accepted ≡ first_broken (content_rules s j)) where
    pub by_day : (refusal : Refusal) → number_of refusal ≡ first_broken (same_day_rules s j) → number_of refusal ≡ first_broken (checked_rules s j)
    unfolding content_rules same_day_rules checked_rules
    by_day refusal e = passes (content_rules s j) (same_day_rules s j ++ order_rules s j) refl content (ends (same_day_rules s j) (order_rules s j) refl refusal e)

    pub by_order : accepted ≡ first_broken (same_day_rules s j) → (n : ℕ) → n ≡ first_broken (order_rules s j) → n ≡ first_broken (checked_rules s j)
    unfolding content_rules same_day_rules checked_rules
    by_order day n e = passes (content_rules s j) (same_day_rules s j ++ order_rules s j) refl content (passes (same_day_rules s j) (order_rules s j) refl day e)

pub ruleset groups = (by_content, by_day, by_order, passed_on)

module _ (s : Submission) (area : List ℕ) where
  abbrev j : Journal
  j = journal_of area

  -- ---- the judgement
  number_found : {found : Result ℕ Refusal} → found ≡ indicated_in s j → number_in found ≡ first_broken (indicator_rules s j)
  unfolding indicator_rules indicated_in
  number_found h = rw h (by_indicator _ _)

  pub by_found : (refusal : Refusal) → Err refusal ≡ indicated_in s j → carried_out (Err refusal) area ≡ submitted s area (first_broken (judged_rules s j))
  unfolding indicator_rules judged_rules
  by_found refusal h = stops (indicator_rules s j) (volume_rules s j) refl s area refusal (number_found h)

  pub past_found : (flag : ℕ) → Ok flag ≡ indicated_in s j → submitted s area (first_broken (volume_rules s j)) ≡ submitted s area (first_broken (judged_rules s j))
  unfolding indicator_rules judged_rules
  past_found flag h = goes_on (indicator_rules s j) (volume_rules s j) refl s area (number_found h)

  -- ---- the whole decision
  in_stages : submitted s area (first_broken (area_rules area ++ (checked_rules s j ++ judged_rules s j))) ≡ submit_in s area
  unfolding submitted submit_in submit_checks submit_rules content_rules same_day_rules checked_rules judged_rules
  in_stages = refl

  pub by_area : (refusal : Refusal) → number_of refusal ≡ first_broken (area_rules area) → carried_out (Err refusal) area ≡ submit_in s area
  unfolding area_rules
  by_area refusal e = stops (area_rules area) (checked_rules s j ++ judged_rules s j) refl s area refusal e ∙ in_stages

  module _ (sound : accepted ≡ first_broken (area_rules area)) where
    past_area : submitted s area (first_broken (checked_rules s j ++ judged_rules s j)) ≡ submit_in s area
    unfolding area_rules
    past_area = goes_on (area_rules area) (checked_rules s j ++ judged_rules s j) refl s area sound ∙ in_stages

    pub by_check : (refusal : Refusal) → number_of refusal ≡ first_broken (checked_rules s j) → carried_out (Err refusal) area ≡ submit_in s area
    unfolding content_rules same_day_rules order_rules checked_rules
    by_check refusal e = stops (checked_rules s j) (judged_rules s j) refl s area refusal e ∙ past_area

    pub past_check : accepted ≡ first_broken (checked_rules s j) → submitted s area (first_broken (judged_rules s j)) ≡ submit_in s area
    unfolding content_rules same_day_rules order_rules checked_rules
    past_check e = goes_on (checked_rules s j) (judged_rules s j) refl s area e ∙ past_area

-- ---- what a judgement of the area says of the whole decision
abbrev pub Means : Submission → List ℕ → Result Summary Refusal → Type 0
Means s area (Err refusal) = submit_in s area ≡ refused (number_of refusal) area
Means s area (Ok t) = submit_in s area ≡ submitted s area (first_broken (submit_rules s (journal_of area)))

module _ (s : Submission) (area : List ℕ) where
  by_tests : (zero sound : Bool) → all_zero area ≡ zero → is_sound area ≡ sound → Means s area (cond zero (Err NoMeter) (cond sound (Ok (summary_of (journal_of area))) (Err Damaged)))
  unfolding number_of submitted submit_in submit_checks area_rules
  by_tests true sound z t = rw z
  by_tests false true z t = rw (z, t)
  by_tests false false z t = rw (z, t)

  pub means : length area ≡ area_bytes → Means s area (found.judged area)
  unfolding found.judged
  means h = rw h (by_tests (all_zero area) (is_sound area) refl refl)

-- ---- one group after another gives what the whole list does
module _ (s : Submission) (area : List ℕ) (j : Journal) where
  -- what is answered and left where a group gives n, and the rules after it d
  abbrev after : ℕ → Acted → Acted
  after n d = cond (eqb n accepted) d (refused n area)

  abbrev content : ℕ
  content = first_broken (content_rules s j)

  abbrev day : ℕ
  day = first_broken (same_day_rules s j)

  abbrev order : ℕ
  order = first_broken (order_rules s j)

  -- the judgement, where the read is in order
  abbrev judged : Acted
  judged = submitted s area (first_broken (judged_rules s j))

  pub in_groups : submitted s area (first_broken (submit_rules s j)) ≡ after content (after day (after order judged))
  unfolding submit_rules content_rules same_day_rules order_rules judged_rules
  in_groups =
      one_group (content_rules s j) (same_day_rules s j ++ (order_rules s j ++ judged_rules s j)) refl s area
      ∙ ap (after content)
      (one_group (same_day_rules s j) (order_rules s j ++ judged_rules s j) refl s area
      ∙ ap (after day) (one_group (order_rules s j) (judged_rules s j) refl s area))

  -- ---- the judgement, by what the indicator makes of the detection
  pub denied : indicated_in s j ≡ Err Ee → judged ≡ refused read_ee area
  unfolding number_of submitted indicator_rules judged_rules is_denied
  denied h = rw h

  pub unclear : indicated_in s j ≡ Err Ef → judged ≡ refused read_ef area
  unfolding number_of submitted indicator_rules judged_rules is_denied is_unclear
  unclear h = rw h

-- a read that is taken with this flag stands with this advance, is held, or is not written, by the number of 19 to 21
abbrev pub weighed : Submission → List ℕ → ℕ → ℕ → ℤ → ℕ → Acted
weighed s area number flag advance at =
    cond (eqb number accepted)
    (acted (Answered (answer accepted flag advance)) (put_entry area at (entry_for kind_standing s flag)))
    (cond (is_volume_query number) (refused number (put_entry area at (entry_for kind_held s flag))) (refused number area))

module _ (s : Submission) (area : List ℕ) where
  abbrev its : Journal
  its = journal_of area

  pub flagged : (flag : ℕ) → indicated_in s its ≡ Ok flag → judged s area its ≡ weighed s area (volume_number its.head.dials its.head.capacity s flag (recent_of (standing its.entries))) flag (advance_over its.head.dials s.value flag (slot_at (standing its.entries) 0)) (offset_after its.head (kept its.entries))
  unfolding submitted submitted_advance written entry_offset journal_of indicator_rules volume_rules judged_rules is_denied is_unclear indicated_flag volume_number
  flagged flag h = rw h

pub ruleset judgement = (by_found, past_found, passed_on)

pub ruleset decision = (by_area, by_check, past_check, passed_on)
