-- None where all entries are kept, and else the entry after those.
use mathlib.Core.Path.{◌∙◌}
use Rattle.reads.proofs.Counted.{held_none, slot_held}
use Rattle.reads.proofs.held.held.Goals as goal

pub returns-then-t : goal.returns-then-t
returns-then-t c = λ is. held_none _ _ is c.if-t.true

pub returns : goal.returns
returns c = λ is. c.entry_in.ensures ∙ slot_held _ _ is c.if-t.false
