-- Each number of the next tally is the one that is wanted, where none is below 0 and the dials show the last value.
use mathlib.Core.Path.{◌≡◌, sym, ◌∙◌}
use mathlib.Core.Bool.{true, false}
use native.Mathlib.Omega.{arith}
use borrow.Author.Tests.{eq-eqb, ne_eqb}
use lib.Dec.{eqb}
use mir.Syntax.{w64}
use mir.ValLaws.{to_z-of_z}
use Rattle.tally.proofs.Withdrawals.{few_standing, few_flagged, moved_out, moved_shown}
use Rattle.tally.proofs.change.without.Goals as goal

pub returns-in_err-standing : goal.returns-in_err-standing
returns-in_err-standing c =
    let a = c.args in
    rw c.from_residual.ensures (sym (few_standing a.t a.flag a.advance (omega (arith, c.in_err-standing.ensures))))

pub returns-in_err-flagged : goal.returns-in_err-flagged
returns-in_err-flagged c =
    let a = c.args in
    rw c.from_residual-in_err-flagged.ensures (sym (few_flagged a.t a.flag a.advance (omega (arith, c.in_err-flagged.ensures, c.from.ensures))))

pub returns-in_err-last : goal.returns-in_err-last
returns-in_err-last c =
    let a = c.args in
    let moved = sym (rw (to_z-of_z w64 a.advance c.ranges.advance) at c.in_err-last.ensures) in
    rw c.from_residual-in_err-last.ensures (sym (moved_out a.t a.flag a.advance moved))

-- the only read's value goes with it
pub returns-then-standing-eq0 : goal.returns-then-standing-eq0
returns-then-standing-eq0 c =
    let a = c.args in
    let some = c.in_ok-standing.ensures in
    let off = rw c.from.ensures at c.in_ok-flagged.ensures in
    let moved = sym (rw (to_z-of_z w64 a.advance c.ranges.advance) at c.in_ok-last.ensures) in
    let one : eqb a.t.standing 1 ≡ true = eq-eqb a.t.standing 1 (omega (arith, c.if-standing-eq0.true, some)) in
    rw (some.1, off.1) (sym (moved_shown a.t a.flag a.advance c.in_ok-last.last moved some.0 off.0 ∙ rw one))

pub returns-else-standing-eq0 : goal.returns-else-standing-eq0
returns-else-standing-eq0 c =
    let a = c.args in
    let some = c.in_ok-standing.ensures in
    let off = rw c.from.ensures at c.in_ok-flagged.ensures in
    let moved = sym (rw (to_z-of_z w64 a.advance c.ranges.advance) at c.in_ok-last.ensures) in
    let more : eqb a.t.standing 1 ≡ false = ne_eqb a.t.standing 1 (λ one. c.if-standing-eq0.false (omega (arith, some, one))) in
    rw (some.1, off.1) (sym (moved_shown a.t a.flag a.advance c.in_ok-last.last moved some.0 off.0 ∙ rw more))
