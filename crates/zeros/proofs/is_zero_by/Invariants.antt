-- The bits are those of the bytes passed and of the last ones.
use Rattle.std.proofs.Common.{◌≡◌, ◌-◌, ◌&&◌, eqb, take, drop}
use Rattle.register.specs.Area.{all_zero}
use Rattle.zeros.proofs.is_zero_by.Given as goal

abbrev pub invariant-loop-i : goal.invariant-loop-i
invariant-loop-i g l = eqb l.bits 0 ≡ all_zero (take (l.i - l.from) (drop l.from l.bytes)) && all_zero (drop l.last l.bytes)
