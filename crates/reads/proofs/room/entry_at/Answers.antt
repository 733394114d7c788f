-- The part that is lent has the entry whole.
use mathlib.Core.Path.{◌∙◌}
use Rattle.register.proofs.Parts.{part_entry}
use Rattle.reads.proofs.room.entry_at.Goals as goal

pub returns : goal.returns
returns c = c.entry_of.ensures ∙ part_entry c.args.body.now _
