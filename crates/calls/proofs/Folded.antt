-- A fold leaves a sound journal: its carry counts fewer reads than there are days before the oldest kept one, and there is room for it.
use mathlib.Core.Path.{◌≡◌, refl, ap}
use mathlib.Core.Bool.{Bool, true, false, not, cond, ◌||◌}
use mathlib.Core.List.{List, [], ◌∷◌}
use Prim.Native.Nat.{suc, ◌+◌, ◌≤◌, ◌<◌}
use native.Mathlib.Omega.{arith}
use borrow.Author.Tests.{eqb-false, ltb-true, ltb-false, le-leb, lt-ltb, not-true}
use lib.Dec.{eqb, ltb}
use lib.ListN.{length}
use Rattle.terms.specs.declared.entry.Entry.{Entry}
use Rattle.terms.specs.Entry.{is_standing, is_withdrawn, is_held, those}
use Rattle.terms.specs.Letter.{is_opening}
use Rattle.register.specs.declared.head.Head.{Head}
use Rattle.register.specs.Head.{no_carry, most_entries}
use Rattle.journal.specs.Journal.{Journal, standing, withdrawn, is_flagged, first_value, oldest_of, day_of}
use Rattle.journal.specs.Sound.{every, any, holds, opens, is_in_range, is_read, is_later, days_rise, opens_right, is_final_read, has_one_final, has_read, is_apart_from, are_apart, exists, is_held_right, is_before, is_carry, carries_right, are_sound}
use Rattle.journal.proofs.Entries.{those_at_most}
use Rattle.calls.specs.Checks.{least_to_fold, is_no_fold}
use Rattle.journal.specs.Total.{flagged_of, flagged_in, first_in}
use Rattle.calls.specs.Fold.{kept_from, stays, carry_after, head_after}
use Rattle.calls.proofs.Bools.{both, together, right_or, by_test}
use Rattle.journal.proofs.Bools.{neither}
use Rattle.calls.proofs.Lists.{every_those}
use Rattle.calls.proofs.Carried.{carries}
use Rattle.calls.proofs.Clauses.{Clauses, clauses_of, of_clauses}
use Rattle.calls.proofs.Newest.{every_weaker}
use Rattle.calls.proofs.Folding.{those_swap, any_those, fewer, Four, four, three_rise, third_rise, standing_left, withdrawn_left, held_left}

-- ---- the first of some reads is in its ranges, and each read after it has a day more
dated : (head : Head) (e : Entry) → is_read head e ≡ true → (0 < e.day) × (holds head e.value ≡ true)
unfolding is_read is_in_range
dated head e h =
    let r = both (is_standing e || (is_withdrawn e || is_held e)) _ h in
    let d = both (not (eqb e.day 0)) _ r.1 in
    let v = both (holds head e.value) _ d.1 in
    let ne : e.day ≡ 0 → ⊥ = eqb-false _ _ (not-true _ d.0) in
    (omega arith, v.0)

pub oldest_dated : (head : Head) (s : Entry) (ss : List Entry) → every (is_read head) (s ∷ ss) ≡ true → 0 < day_of (oldest_of (s ∷ ss))
unfolding every oldest_of day_of
oldest_dated head s [] h = (dated head s (both (is_read head s) true h).0).0
oldest_dated head s (t ∷ ss) h = oldest_dated head t ss (both (is_read head s) (every (is_read head) (t ∷ ss)) h).1

first_holds : (head : Head) (s : Entry) (ss : List Entry) → every (is_read head) (s ∷ ss) ≡ true → holds head (first_value (s ∷ ss)) ≡ true
unfolding every first_value
first_holds head s [] h = (dated head s (both (is_read head s) true h).0).1
first_holds head s (t ∷ ss) h = first_holds head t ss (both (is_read head s) (every (is_read head) (t ∷ ss)) h).1

pub days_apart : (s : Entry) (ss : List Entry) → days_rise (s ∷ ss) ≡ true → length ss + day_of (oldest_of (s ∷ ss)) ≤ s.day
unfolding days_rise oldest_of day_of
days_apart s [] h = omega arith
days_apart s (t ∷ ss) h =
    let h' = both (is_later s t) (days_rise (t ∷ ss)) h in
    let g : t.day < s.day = ltb-true _ _ h'.0 in
    omega (arith, days_apart t ss h'.1)

most_at_most : (b : Bool) → cond b 49 50 ≤ 50
most_at_most true = omega arith
most_at_most false = omega arith

-- ---- what holds of the entries of a sound journal that may be folded
module _ (j : Journal) (bare : j.head.carried ≡ false → j.head.carry ≡ no_carry) (sound : are_sound j.head j.entries ≡ true) (can : is_no_fold (standing j.entries) ≡ false) where
  abbrev head : Head
  head = j.head

  abbrev es : List Entry
  es = j.entries

  abbrev head' : Head
  head' = head_after j

  abbrev es' : List Entry
  es' = those (stays (kept_from es)) es

  clauses : Clauses head es
  clauses = clauses_of head es sound

  pub enough : least_to_fold ≤ length (standing es)
  unfolding is_no_fold
  enough = ltb-false _ _ (neither (ltb (length (standing es)) least_to_fold) (any is_final_read (standing es)) can).0

  no_final : any is_final_read (standing es) ≡ false
  unfolding is_no_fold
  no_final = (neither (ltb (length (standing es)) least_to_fold) (any is_final_read (standing es)) can).1

  standing_reads_lem : every (is_read head) (standing es) ≡ true
  standing_reads_lem = every_those (is_read head) is_standing es clauses.reads

  -- what the head says of what was folded before
  no_folded : no_carry.folded ≡ 0
  unfolding no_carry
  no_folded = refl

  none_fewer : no_carry.flagged ≤ no_carry.folded
  unfolding no_carry
  none_fewer = omega arith

  folded_before : head.carry.folded < day_of (oldest_of (standing es))
  folded_before = by_test head.carried (λ t. (carries head (standing es) clauses.carry t).before) (λ t. none (four (standing es) enough) t)
    where
      none : Four (standing es) → head.carried ≡ false → head.carry.folded < day_of (oldest_of (standing es))
      none f t =
          let d : 0 < day_of (oldest_of (standing es)) = rw f.are (oldest_dated head f.newest _ (rw f.are at standing_reads_lem)) in
          let z : head.carry.folded ≡ 0 = rw (bare t) no_folded in
          omega arith

  flagged_fewer : head.carry.flagged ≤ head.carry.folded
  flagged_fewer =
      by_test head.carried
      (λ t. (carries head (standing es) clauses.carry t).fewer)
      (λ t. rw (bare t) none_fewer)

  first_fits : holds head (first_in head (standing es)) ≡ true
  unfolding first_in holds
  first_fits =
      by_test head.carried
      (λ t. rw t (carries head (standing es) clauses.carry t).small)
      (λ t. let f = four (standing es) enough in rw (t, f.are) (first_holds head f.newest _ (rw f.are at standing_reads_lem)))

  module _ (f : Four (standing es)) where
    rise : days_rise (f.newest ∷ f.second ∷ f.third ∷ f.fourth ∷ f.older) ≡ true
    rise = rw f.are at clauses.rise

    stand : standing es' ≡ f.newest ∷ f.second ∷ f.third ∷ []
    stand = standing_left es f.newest f.second f.third (f.fourth ∷ f.older) f.are clauses.rise

    reads' : every (is_read head') es' ≡ true
    unfolding is_read is_in_range holds head_after
    reads' = every_those (is_read head) (stays (kept_from es)) es clauses.reads

    opens' : opens_right head' (f.newest ∷ f.second ∷ f.third ∷ []) ≡ true
    unfolding opens_right opens head_after
    opens' =
        let o : opens_right head (f.newest ∷ f.second ∷ f.third ∷ f.fourth ∷ f.older) ≡ true = rw f.are at clauses.opens in
        let o₁ = both (not (is_opening f.newest.letter)) _ o in
        let o₂ = both (not (is_opening f.second.letter)) _ o₁.1 in
        together o₁.0 (together o₂.0 refl)

    final' : has_one_final (f.newest ∷ f.second ∷ f.third ∷ []) ≡ true
    unfolding has_one_final any
    final' =
        let n : any is_final_read (f.newest ∷ f.second ∷ f.third ∷ f.fourth ∷ f.older) ≡ false = rw f.are at no_final in
        let n₁ = neither (is_final_read f.newest) _ n in
        let n₂ = neither (is_final_read f.second) _ n₁.1 in
        let n₃ = neither (is_final_read f.third) _ n₂.1 in
        rw (n₁.0, n₂.0, n₃.0)

    apart_from_fewer : (w : Entry) → is_apart_from (standing es) w ≡ true → is_apart_from (standing es') w ≡ true
    apart_from_fewer w h =
        let test = has_read w.day w.value in
        let none : any test (standing es') ≡ false = rw (those_swap is_standing (stays (kept_from es)) es) (any_those (stays (kept_from es)) test (standing es) (not-true _ h)) in
        ap not none

    apart' : are_apart (standing es') (withdrawn es') ≡ true
    unfolding are_apart
    apart' =
        rw (withdrawn_left (kept_from es) es)
        (every_those (is_apart_from (standing es')) (λ w. ltb (kept_from es) w.day) (withdrawn es)
        (every_weaker (is_apart_from (standing es)) (is_apart_from (standing es')) apart_from_fewer (withdrawn es) clauses.apart))

    held' : is_held_right es' ≡ true
    unfolding exists
    held' = held_left (kept_from es) es clauses.held no_final (rw stand)

    -- ---- the carry
    folded' : head'.carry.folded ≡ head.carry.folded + suc (length f.older)
    unfolding head_after carry_after
    folded' = rw f.are (omega arith)

    below : head'.carry.folded < f.third.day
    unfolding oldest_of
    below =
        let before : head.carry.folded < day_of (oldest_of (f.newest ∷ f.second ∷ f.third ∷ f.fourth ∷ f.older)) = rw f.are at folded_before in
        let r = third_rise f.newest f.second f.third (f.fourth ∷ f.older) rise in
        omega (arith, folded', days_apart f.third (f.fourth ∷ f.older) r)

    flagged' : head'.carry.flagged ≤ head'.carry.folded
    unfolding head_after carry_after flagged_in flagged_of
    flagged' = rw f.are (omega (arith, flagged_fewer, those_at_most is_flagged (f.fourth ∷ f.older)))

    first' : holds head' head'.carry.first ≡ true
    unfolding head_after carry_after holds
    first' = first_fits

    carry' : carries_right head' (f.newest ∷ f.second ∷ f.third ∷ []) ≡ true
    unfolding carries_right is_carry is_before oldest_of
    carry' =
        right_or (not head'.carried)
        (together first'
        (together (le-leb _ _ flagged')
        (together (le-leb 1 head'.carry.folded (omega (arith, folded'))) (lt-ltb _ _ below))))

    pub clauses' : Clauses head' es'
    clauses' =
        record {
          reads = reads';
          rise = rw stand (three_rise f.newest f.second f.third (f.fourth ∷ f.older) rise);
          opens = rw stand opens';
          final = rw stand final';
          held = held';
          apart = apart';
          carry = rw stand carry';
        }

  pub three_stand : (f : Four (standing es)) → standing es' ≡ f.newest ∷ f.second ∷ f.third ∷ []
  three_stand f = stand f

  -- one at least goes of those that stand, so that there is room for the carry
  pub left_room : Four (standing es) → length es ≤ most_entries head → length es' ≤ most_entries head'
  unfolding head_after most_entries
  left_room f few =
      let three : length (standing es') ≡ 3 = rw (stand f) in
      omega (arith, fewer (stays (kept_from es)) es, three, enough, most_at_most head.carried)

  pub folded_sound : are_sound head' es' ≡ true
  folded_sound = of_clauses head' es' (clauses' (four (standing es) enough))
