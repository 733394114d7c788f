-- An advance is far within 64 bits, so its negation fits; the match on the slot is the definition's.
use mathlib.Core.Path.{◌≡◌, sym, ap, ◌∙◌}
use Prim.Native.Nat.{ℕ}
use native.Mathlib.Omega.{arith}
use lib.IntN.{ℤ, pos, neg_ℤ, ◌-ℤ◌, +ℤ_idl}
use mir.Syntax.{w64}
use mir.Val.{SFits, to_z, of_z}
use mir.ValLaws.{to_z-of_z}
use Rattle.arithmetic.specs.Inner.Bounds.{advance_most}
use Rattle.arithmetic.proofs.Signed.{Word, within_negated, within_fits}
use Rattle.rules.specs.Volume.{advance_over}
use Rattle.rules.proofs.Laws.{advance_word}
use Rattle.meter.proofs.withdraw.take_back.Goals as goal

module _ {x : ℕ} {a : ℤ} (w : Word x a advance_most) where
  negated : pos 0 -ℤ to_z w64 x ≡ neg_ℤ a
  negated = +ℤ_idl (neg_ℤ (to_z w64 x)) ∙ ap neg_ℤ w.reads

  fits : SFits w64 (pos 0 -ℤ to_z w64 x)
  fits = rw negated (within_fits (within_negated w.bound) tt)

  reads : to_z w64 (of_z w64 (pos 0 -ℤ to_z w64 x)) ≡ neg_ℤ a
  reads = to_z-of_z w64 (pos 0 -ℤ to_z w64 x) fits ∙ negated

pub overflow_sub-result : goal.overflow_sub-result
overflow_sub-result c = fits (advance_word _ _ _ _ c.advance.ensures (omega arith) (omega arith) (omega arith))

pub returns-in-Some : goal.returns-in-Some
unfolding advance_over
returns-in-Some c =
    reads (advance_word _ _ _ _ c.advance.ensures (omega arith) (omega arith) (omega arith)) ∙ sym (ap neg_ℤ (ap (advance_over _ _ _) c.in-Some.is))

pub returns-in-None : goal.returns-in-None
unfolding advance_over
returns-in-None c = rw c.in-None.is
