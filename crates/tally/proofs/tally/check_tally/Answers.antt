-- The first rule broken: zero, and then broken.
use mathlib.Core.Path.{◌≡◌, sym, ◌∙◌}
use mathlib.Core.Bool.{true, false}
use Rattle.terms.specs.Refusal.{number_of}
use Rattle.tally.specs.Tally.{is_zero, tally_number}
use Rattle.tally.proofs.Checked.{compared}
use Rattle.tally.proofs.tally.check_tally.Goals as goal

pub returns-then-eq : goal.returns-then-eq
unfolding number_of tally_number
returns-then-eq c =
    let zero : is_zero c.args.t ≡ true = sym (compared _ c.default.ensures) ∙ sym c.eq.ensures ∙ c.if-eq.true in
    rw zero

pub returns-then-is_broken : goal.returns-then-is_broken
unfolding number_of tally_number
returns-then-is_broken c =
    let other : is_zero c.args.t ≡ false = sym (compared _ c.default.ensures) ∙ sym c.eq.ensures ∙ c.if-eq.false in
    rw (other, sym c.is_broken.ensures ∙ c.if-is_broken.true)

pub returns : goal.returns
unfolding tally_number
returns c =
    let other : is_zero c.args.t ≡ false = sym (compared _ c.default.ensures) ∙ sym c.eq.ensures ∙ c.if-eq.false in
    rw (other, sym c.is_broken.ensures ∙ c.if-is_broken.false)
