-- A tally is compared with one of zeros; of the next none of the numbers is below 0.
use mathlib.Core.Path.{◌≡◌, sym, ◌∙◌}
use mathlib.Core.Bool.{true, false}
use borrow.Author.Tests.{not-true, not-false}
use Rattle.tally.specs.Tally.{is_zero}
use Rattle.tally.specs.Change.{tally_for, may_be, made_to, enrolled}
use Rattle.tally.proofs.Checked.{compared}
use Rattle.tally.proofs.change.enrol.Goals as goal

pub returns-then-ne : goal.returns-then-ne
returns-then-ne c =
    let other : is_zero c.args.t ≡ false = sym (compared _ c.default.ensures) ∙ not-true _ (sym c.ne.ensures ∙ c.if-ne.true) in
    rw other

pub returns : goal.returns
unfolding made_to may_be tally_for enrolled
returns c =
    let zero : is_zero c.args.t ≡ true = sym (compared _ c.default.ensures) ∙ not-false _ (sym c.ne.ensures ∙ c.if-ne.false) in
    let z = c.default-2.ensures in
    rw (c.made_to.ensures, zero, c.from.ensures, z.1.0, z.1.1.0, z.1.1.1.0, z.1.1.1.1)
