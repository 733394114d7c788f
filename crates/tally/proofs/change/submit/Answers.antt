-- The numbers of a tally that may change are small, so that one more fits; of the next none is below 0.
use mathlib.Core.Path.{◌≡◌, sym, ◌∙◌}
use mathlib.Core.Bool.{cond}
use native.Mathlib.Omega.{arith}
use borrow.Author.Tests.{eq-eqb, ne_eqb}
use lib.Dec.{eqb}
use Rattle.tally.specs.Tally.{tally_number}
use Rattle.terms.specs.Number.{accepted}
use Rattle.tally.specs.Change.{tally_for, may_be, made_to, with_read}
use Rattle.tally.proofs.Checked.{passed, stopped}
use Rattle.tally.proofs.FitNumbers.{number_fits}
use Rattle.tally.proofs.change.submit.Goals.{then-t-eq0, else-t-eq0}
use Rattle.tally.proofs.change.submit.Goals as goal

pub returns-then-is_err : goal.returns-then-is_err
returns-then-is_err c = rw (stopped _ c.check_tally.ensures (sym c.if-is_err.ensures.value))

pub overflow_add-next : goal.overflow_add-next
overflow_add-next c =
    let f = number_fits _ (passed _ c.check_tally.ensures (sym c.if-is_err.ensures.value)) in
    omega (arith, f.few)

pub overflow_add-next-2 : goal.overflow_add-next-2
overflow_add-next-2 c =
    let f = number_fits _ (passed _ c.check_tally.ensures (sym c.if-is_err.ensures.value)) in
    omega (arith, f.fewer, f.few)

pub returns : goal.returns
unfolding made_to may_be tally_for with_read
returns c =
    let a = c.args in
    let number : tally_number a.t ≡ accepted = passed _ c.check_tally.ensures (sym c.if-is_err.ensures.value) in
    let first_is : c.if-t-eq0.next ≡ cond (eqb a.t.standing 0) a.value a.t.first =
    elim c.if-t-eq0.branch [
      | then-t-eq0 w ↦ w.next-is ∙ rw (eq-eqb _ 0 w.if-t-eq0.true)
      | else-t-eq0 w ↦ w.next-is ∙ rw (ne_eqb _ 0 w.if-t-eq0.false)
    ]
    in
    c.made_to.ensures ∙ rw (eq-eqb _ accepted number, first_is, c.from.ensures)
