-- None where none stands, and else the entry at the newest's position.
use mathlib.Core.Path.{◌∙◌}
use Rattle.terms.specs.Entry.{slot_at}
use Rattle.reads.proofs.Counted.{none_stand, newest_in}
use Rattle.reads.proofs.recent.last.Goals as goal

pub returns-then-t-eq0 : goal.returns-then-t-eq0
unfolding slot_at
returns-then-t-eq0 c = λ is. rw (none_stand _ _ is c.if-t-eq0.true)

pub returns : goal.returns
returns c = λ is. c.entry_in.ensures ∙ newest_in _ _ is c.if-t-eq0.false
