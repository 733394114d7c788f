-- What is kept is the definition's over the entries passed.
use mathlib.Core.Path.{refl}
use Rattle.terms.specs.Entry.{those, slot_at, recent_of}
use Rattle.journal.specs.Journal.{entries_to}
use Rattle.journal.proofs.Entries.{one_more}
use Rattle.fold.proofs.kept.kept_of.Goals as goal

pub loop-k-init : goal.loop-k-init
unfolding entries_to those slot_at recent_of
loop-k-init c = refl

pub loop-k-preserved : goal.loop-k-preserved
loop-k-preserved c = rw (one_more, ← c.entry_after.ensures) (c.newer-kept.ensures _ c.loop-k.invariant)
