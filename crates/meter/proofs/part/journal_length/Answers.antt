-- The place decides first, and then the area that is lent.
use native.Mathlib.Omega.{arith}
use Rattle.calls.specs.Calls.{journal_length}
use Rattle.place.proofs.Placed.{is_refused, is_accepted_lem, has_area, lent_is}
use Rattle.meter.proofs.part.journal_length.Goals as goal

pub slice_bounds-length_in-end : goal.slice_bounds-length_in-end
slice_bounds-length_in-end c = omega (arith, has_area _ _ (rw c.in-Ok.is at c.locate.ensures))

pub returns-in-Err : goal.returns-in-Err
unfolding journal_length
returns-in-Err c = rw (is_refused _ _ (rw c.in-Err.is at c.locate.ensures))

pub returns-in-Ok : goal.returns-in-Ok
unfolding journal_length
returns-in-Ok c =
    let there = rw c.in-Ok.is at c.locate.ensures in
    rw (is_accepted_lem _ _ there, ← lent_is _ _ there) c.length_in.ensures
