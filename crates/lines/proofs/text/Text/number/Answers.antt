-- The digits, and then the byte.
use Rattle.lines.proofs.Fields.{adds_both}
use Rattle.lines.proofs.text.Text.number.Goals as goal

pub returns-clause-adds : goal.returns-clause-adds
returns-clause-adds g c = adds_both (rw (c.as_bytes.ensures.value, c.format.ensures.text) at c.put.ensures) c.push.ensures
