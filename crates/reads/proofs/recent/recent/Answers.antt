-- None where none stands; else the body is lent, and its last standing entry is the journal's.
use mathlib.Core.Path.{sym, ap, ◌∙◌}
use native.Mathlib.Omega.{arith}
use Rattle.terms.specs.Entry.{slot_at, recent_of}
use Rattle.reads.proofs.Lent.{lent_room, start_room}
use Rattle.reads.proofs.Counted.{none_stand, no_room, lent_last}
use Rattle.reads.proofs.recent.recent.Goals as goal

pub returns-then-t-eq0 : goal.returns-then-t-eq0
unfolding recent_of slot_at
returns-then-t-eq0 c = λ is. rw (none_stand _ _ is c.if-t-eq0.true)

pub returns-then-not-has_entry : goal.returns-then-not-has_entry
unfolding recent_of slot_at
returns-then-not-has_entry c = λ is. rw (no_room _ _ is (sym c.has_entry.ensures ∙ c.if-not-has_entry.true))

pub slice_bounds-recent_over-count : goal.slice_bounds-recent_over-count
slice_bounds-recent_over-count c = start_room _ c.args.t.head _ (sym c.has_entry.ensures ∙ c.if-not-has_entry.false) c.head_bytes-start.ensures

pub slice_bounds-recent_over-start : goal.slice_bounds-recent_over-start
slice_bounds-recent_over-start c = start_room _ c.args.t.head _ (sym c.has_entry.ensures ∙ c.if-not-has_entry.false) c.head_bytes-start.ensures

pub recent_over-requires : goal.recent_over-requires
recent_over-requires c = omega (arith, lent_room _ c.args.t.head _ (sym c.has_entry.ensures ∙ c.if-not-has_entry.false) c.head_bytes-start.ensures)

pub returns : goal.returns
returns c = λ is. c.recent_over.ensures ∙ ap recent_of (sym (lent_last _ c.args.t is c.if-t-eq0.false c.head_bytes-start.ensures))
