-- A later day than the last one's is compared with that one alone; else the entries that are searched are all that stand.
use mathlib.Core.Path.{sym, ◌∙◌}
use mathlib.Core.Bool.{Bool, true, false}
use Prim.Native.Nat.{◌≤◌}
use native.Mathlib.Omega.{arith}
use lib.Dec.{ltb}
use mir.Val.{bool_byte}
use Rattle.reads.proofs.Lent.{few_entries, lent_room, start_room}
use Rattle.reads.proofs.Counted.{rises, day_is, stands_is, no_room, lent_all}
use Rattle.reads.proofs.Searched.{search_right, none_standing, newest_earlier}
use Rattle.reads.proofs.search.search_day.Goals as goal

one_at_most : (b : Bool) → bool_byte b ≤ 1
one_at_most true = omega arith
one_at_most false = omega arith

pub returns-then-t-day : goal.returns-then-t-day
returns-then-t-day c =
    let t = c.args.t in
    λ is. c.not_found.ensures ∙ newest_earlier _ _ (stands_is _ t is) (rises _ t is) (omega (arith, day_is _ t is, c.if-t-day.true))

pub returns-then-not-has_entry : goal.returns-then-not-has_entry
returns-then-not-has_entry c =
    λ is. c.not_found-then-not-has_entry.ensures ∙ none_standing _ _ (no_room _ _ is (sym c.has_entry.ensures ∙ c.if-not-has_entry.true))

pub slice_bounds-search_back-count : goal.slice_bounds-search_back-count
slice_bounds-search_back-count c = start_room _ c.args.t.head _ (sym c.has_entry.ensures ∙ c.if-not-has_entry.false) c.head_bytes-start.ensures

pub slice_bounds-search_back-start : goal.slice_bounds-search_back-start
slice_bounds-search_back-start c = start_room _ c.args.t.head _ (sym c.has_entry.ensures ∙ c.if-not-has_entry.false) c.head_bytes-start.ensures

pub overflow_add-t : goal.overflow_add-t
overflow_add-t c =
    omega (arith, few_entries _ c.args.t.head _ (sym c.has_entry.ensures ∙ c.if-not-has_entry.false) c.head_bytes-start.ensures, one_at_most (ltb 0 c.args.t.counts.standing))

pub search_back-requires : goal.search_back-requires
search_back-requires c =
    omega (arith, lent_room _ c.args.t.head _ (sym c.has_entry.ensures ∙ c.if-not-has_entry.false) c.head_bytes-start.ensures, one_at_most (ltb 0 c.args.t.counts.standing))

pub returns : goal.returns
returns c =
    let t = c.args.t in
    λ is. rw (lent_all _ t is c.head_bytes-start.ensures) at c.search_back.ensures ∙ search_right _ _ (rises _ t is)
