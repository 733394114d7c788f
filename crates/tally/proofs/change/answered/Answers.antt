-- An accepted call is taken as its kind says, and no other is.
use borrow.Author.Tests.{eq-eqb, ne_eqb}
use mir.Syntax.{w64}
use mir.Val.{SFits}
use mir.ValLaws.{to_z-of_z}
use Rattle.terms.specs.Number.{accepted}
use Rattle.calls.specs.Play.{number_of}
use Rattle.tally.specs.Change.{taken, tally_after}
use borrow.Author.Rules.{rules}
use Rattle.tally.proofs.change.answered.Goals as goal

pub returns-then-a-ne-ACCEPTED : goal.returns-then-a-ne-ACCEPTED
unfolding tally_after number_of
returns-then-a-ne-ACCEPTED c = rw (ne_eqb _ accepted c.if-a-ne-ACCEPTED.true)

pub returns-in-Enrol : goal.returns-in-Enrol
unfolding tally_after number_of taken
returns-in-Enrol c = rw (c.in-Enrol.is, eq-eqb _ accepted c.if-a-ne-ACCEPTED.false) c.enrol.ensures

pub returns-in-Submit : goal.returns-in-Submit
unfolding tally_after number_of taken
returns-in-Submit c = rw (c.in-Submit.is, eq-eqb _ accepted c.if-a-ne-ACCEPTED.false) c.submit.ensures

-- A signed field comes to the callee as its bits, which read as the field again if it fits.
pub returns-in-Withdraw : goal.returns-in-Withdraw
unfolding tally_after number_of taken
returns-in-Withdraw c =
    let fits : SFits w64 c.args.a.advance = search rules in
    rw (c.in-Withdraw.is, eq-eqb _ accepted c.if-a-ne-ACCEPTED.false)
    (rw (to_z-of_z w64 c.args.a.advance fits) at c.withdraw.ensures)

pub returns-in-Report : goal.returns-in-Report
unfolding tally_after number_of taken
returns-in-Report c = rw (c.in-Report.is, eq-eqb _ accepted c.if-a-ne-ACCEPTED.false)

pub returns-in-Fold : goal.returns-in-Fold
unfolding tally_after number_of taken
returns-in-Fold c = rw (c.in-Fold.is, eq-eqb _ accepted c.if-a-ne-ACCEPTED.false)

pub returns-in-Trial : goal.returns-in-Trial
unfolding tally_after number_of taken
returns-in-Trial c = rw (c.in-Trial.is, eq-eqb _ accepted c.if-a-ne-ACCEPTED.false)
