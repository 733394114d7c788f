-- None where none or one stands; else the body is lent, and its last standing entry is the journal's.
use mathlib.Core.Path.{sym, ◌∙◌}
use native.Mathlib.Omega.{arith}
use Rattle.terms.specs.Entry.{slot_at}
use Rattle.reads.proofs.Lent.{lent_room, start_room}
use Rattle.reads.proofs.Days.{one_alone}
use Rattle.reads.proofs.Counted.{stands_is, no_room, lent_last}
use Rattle.reads.proofs.recent.second.Goals as goal

pub returns-then-t-lt2 : goal.returns-then-t-lt2
returns-then-t-lt2 c = λ is. sym (one_alone _ (omega (arith, stands_is _ c.args.t is, c.if-t-lt2.true)))

pub returns-then-not-has_entry : goal.returns-then-not-has_entry
unfolding slot_at
returns-then-not-has_entry c = λ is. rw (no_room _ _ is (sym c.has_entry.ensures ∙ c.if-not-has_entry.true))

pub slice_bounds-last_over-count : goal.slice_bounds-last_over-count
slice_bounds-last_over-count c = start_room _ c.args.t.head _ (sym c.has_entry.ensures ∙ c.if-not-has_entry.false) c.head_bytes-start.ensures

pub slice_bounds-last_over-start : goal.slice_bounds-last_over-start
slice_bounds-last_over-start c = start_room _ c.args.t.head _ (sym c.has_entry.ensures ∙ c.if-not-has_entry.false) c.head_bytes-start.ensures

pub last_over-requires : goal.last_over-requires
last_over-requires c = omega (arith, lent_room _ c.args.t.head _ (sym c.has_entry.ensures ∙ c.if-not-has_entry.false) c.head_bytes-start.ensures)

pub returns : goal.returns
unfolding slot_at
returns c = λ is. rw (lent_last _ c.args.t is (λ z. omega (arith, c.if-t-lt2.false)) c.head_bytes-start.ensures) c.last_over.ensures
