-- What was put so far, and one byte more.
use native.Mathlib.Omega.{arith}
use Rattle.std.proofs.lemmas.List.{take_more}
use Rattle.lines.proofs.Fields.{adds_none, adds_both}
use Rattle.lines.proofs.text.Text.put.Goals as goal

pub loop-byte-init : goal.loop-byte-init
loop-byte-init c = adds_none

pub loop-byte-preserved : goal.loop-byte-preserved
loop-byte-preserved c = rw (take_more _ _ 0 c.loop-byte-test.true) (adds_both c.loop-byte.invariant (grind arith))
