-- Three values of 4 bytes, one of them times at most 65,535 flags, fit 64 bits.
use mathlib.Core.Path.{◌∙◌}
use Prim.Native.Nat.{◌*◌, ◌≤◌}
use native.Mathlib.Omega.{arith}
use native.Mathlib.Nat.{mul_comm, mul-le-mul}
use Rattle.arithmetic.specs.Advance.{advance_of}
use Rattle.arithmetic.proofs.Signed.{word_cast, word_difference, word_sum}
use Rattle.arithmetic.proofs.advance.total.Goals as goal

pub returns : goal.returns
unfolding advance_of
returns c = λ n is.
    let a = c.args in
    let turned : a.turn * a.flags ≤ 281470681677825 = mul-le-mul {n₂ = 4294967295} {m₂ = 65535} (omega arith) (omega arith) in
    (word_sum (word_difference a.newer a.older 4294967295 (omega arith) (omega arith) tt) (word_cast turned tt) tt).reads
    ∙ rw (mul_comm a.turn a.flags, is)
