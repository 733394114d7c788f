-- A body whose last byte is not there.
use Rattle.std.proofs.Common.{sym, ◌∙◌, arith}
use Rattle.sheet.proofs.Bodies.{cut}
use Rattle.sheet.proofs.split.next_at.Goals as goal

pub returns-then-sheet-next : goal.returns-then-sheet-next
returns-then-sheet-next c = cut _ _ c.if-sheet-at.false (sym c.in-Some.is ∙ c.form_of.ensures) c.body_bytes.ensures (omega (arith, c.if-sheet-next.true))
