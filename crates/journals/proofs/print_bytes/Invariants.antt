-- What was written so far is the text of the bytes so far.
use Rattle.std.proofs.Common.{take}
use Rattle.std.specs.Io.KnownBytes.{Appends}
use Rattle.journals.specs.Text.{bytes_text}
use Rattle.journals.proofs.print_bytes.Given as goal

abbrev pub invariant-loop-byte : goal.invariant-loop-byte
invariant-loop-byte g l =
    Appends (g.W.Write.contents l.initial.output) (g.W.Write.contents l.output) (bytes_text (take l.byte-index l.bytes))
