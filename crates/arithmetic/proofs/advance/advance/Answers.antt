-- Without a flag an advance is the difference, which fits 64 bits.
use mathlib.Core.Path.{sym, ap, ◌∙◌}
use Prim.Native.Nat.{ℕ}
use native.Mathlib.Omega.{arith}
use Rattle.arithmetic.specs.Advance.{advance_of}
use Rattle.arithmetic.proofs.Laws.{ten_at_most, advance_plain}
use Rattle.arithmetic.proofs.Signed.{word_difference}
use Rattle.arithmetic.proofs.advance.advance.Goals as goal

pub returns-then-flags-eq0 : goal.returns-then-flags-eq0
returns-then-flags-eq0 c =
    let a = c.args in
    (word_difference a.newer a.older 4294967295 (omega arith) (omega arith) tt).reads
    ∙ sym (ap (λ (f : ℕ). advance_of a.n a.newer f a.older) c.if-flags-eq0.true ∙ advance_plain a.n a.newer a.older)

pub overflow_cast-power : goal.overflow_cast-power
overflow_cast-power c = omega (arith, ten_at_most c.args.n, c.power.ensures)
