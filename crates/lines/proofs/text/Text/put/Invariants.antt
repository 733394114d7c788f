-- What was put so far.
use Rattle.std.proofs.Common.{take}
use Rattle.lines.specs.Inner.Adds.{Adds}
use Rattle.lines.proofs.text.Text.put.Given as goal

abbrev pub invariant-loop-byte : goal.invariant-loop-byte
invariant-loop-byte l = Adds l.initial.self (take l.byte-index l.bytes) l.self
