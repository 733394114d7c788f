-- The place is checked as the definition has it, and the area that is lent is searched.
use native.Mathlib.Omega.{arith}
use Rattle.terms.proofs.Refusals.{passed_on}
use Rattle.place.proofs.Placed.{is_refused, is_accepted_lem, has_area, lent_is}
use Rattle.meter.specs.Search.{search_of}
use Rattle.meter.proofs.search.search.Goals as goal

pub slice_bounds-search_in-end : goal.slice_bounds-search_in-end
slice_bounds-search_in-end c = omega (arith, has_area _ _ c.in_ok-start.ensures)

pub returns-in_err-start : goal.returns-in_err-start
unfolding search_of
returns-in_err-start c = rw (passed_on _ c.from_residual.ensures.1, is_refused _ _ c.in_err-start.ensures, ← c.in_err-start.ensures.number_is)

pub returns : goal.returns
unfolding search_of
returns c = rw (is_accepted_lem _ _ c.in_ok-start.ensures, ← lent_is _ _ c.in_ok-start.ensures) c.search_in.ensures
