-- What is wanted is made where it is a tally.
use mathlib.Core.Path.{sym, ◌∙◌}
use borrow.Author.Tests.{eq-eqb}
use mir.Syntax.{w64}
use mir.ValLaws.{to_z-of_z}
use Rattle.terms.specs.Number.{accepted}
use Rattle.tally.proofs.Checked.{passed, stopped}
use Rattle.tally.proofs.change.withdraw.Goals as goal

pub returns-then-is_err : goal.returns-then-is_err
returns-then-is_err c = rw (stopped _ c.check_tally.ensures (sym c.if-is_err.ensures.value))

pub returns-in-Some : goal.returns-in-Some
returns-in-Some c =
    let made = rw (to_z-of_z w64 c.args.advance c.ranges.advance) at c.in-Some.ensures in
    c.made_to.ensures ∙ rw (eq-eqb _ accepted (passed _ c.check_tally.ensures (sym c.if-is_err.ensures.value))) made

pub returns-in-None : goal.returns-in-None
returns-in-None c =
    let made = rw (to_z-of_z w64 c.args.advance c.ranges.advance) at c.in-None.ensures in
    rw (eq-eqb _ accepted (passed _ c.check_tally.ensures (sym c.if-is_err.ensures.value))) made
