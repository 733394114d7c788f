-- A byte, and the end moves on.
use Rattle.std.proofs.Common.{refl}
use Rattle.lines.proofs.Fields.{adds_one}
use Rattle.lines.proofs.text.Text.push.Goals as goal

pub returns : goal.returns
returns c = adds_one _ refl c.put_byte.ensures refl
