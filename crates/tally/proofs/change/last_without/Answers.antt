-- The only read leaves 0; any other leaves the last value with the flag's part and the advance added, in one order or the other.
use mathlib.Core.Path.{sym, ◌∙◌}
use native.Mathlib.Omega.{arith}
use borrow.Author.Tests.{eq-eqb, ne_eqb}
use mir.Syntax.{w64}
use mir.ValLaws.{to_z-of_z}
use Rattle.arithmetic.proofs.Laws.{ten_at_most}
use Rattle.tally.specs.Change.{last_without, without_read}
use Rattle.tally.specs.Inner.Moved.{moved_to}
use Rattle.tally.proofs.Moves.{moved, moved_none, flag_first}
use Rattle.tally.proofs.change.last_without.Goals as goal

pub returns-then-t-eq1 : goal.returns-then-t-eq1
unfolding without_read moved_to
returns-then-t-eq1 c = c.shown.ensures ∙ rw (c.limit_of-limit.ensures, eq-eqb c.args.t.standing 1 c.if-t-eq1.true)

pub returns-in_err-checked_add_signed : goal.returns-in_err-checked_add_signed
unfolding without_read last_without
returns-in_err-checked_add_signed c =
    let a = c.args in
    let none = rw (c.from.ensures, c.from-2.ensures, c.limit_of-limit.ensures, c.from-3.ensures, to_z-of_z w64 a.advance c.ranges.advance) at c.in_err-checked_add_signed.ensures in
    c.from_residual.ensures
    ∙ rw (ne_eqb a.t.standing 1 c.if-t-eq1.false, ← flag_first)
    (sym (moved_none _ (omega (arith, ten_at_most a.t.dials)) _ none))

pub returns : goal.returns
unfolding without_read last_without
returns c =
    let a = c.args in
    let fits = rw (c.from.ensures, c.from-2.ensures, c.limit_of-limit.ensures, c.from-3.ensures, to_z-of_z w64 a.advance c.ranges.advance) at c.in_ok-checked_add_signed.ensures in
    c.shown-2.ensures
    ∙ rw (c.limit_of-limit.ensures, ne_eqb a.t.standing 1 c.if-t-eq1.false, ← flag_first, fits.1)
    (sym (moved _ _ fits.0))
