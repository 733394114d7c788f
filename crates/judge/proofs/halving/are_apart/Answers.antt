-- The withdrawn ones of the entries passed are apart from all standing ones.
use mathlib.Core.Path.{refl, sym}
use Rattle.terms.specs.Entry.{those}
use Rattle.journal.specs.Journal.{entries_to}
use Rattle.journal.specs.Sound.{are_apart, every}
use Rattle.judge.proofs.Halved.{apart_on, apart_ends}
use Rattle.judge.proofs.halving.are_apart.Goals as goal

pub loop-k-init : goal.loop-k-init
unfolding are_apart every those entries_to
loop-k-init c = refl

pub returns-then-stands_again : goal.returns-then-stands_again
returns-then-stands_again c = sym (apart_ends _ _ _ c.at.ensures (rw c.standing_in-places.ensures at c.stands_again.ensures) _ c.loop-k-test.true c.if-stands_again.true)

pub loop-k-preserved : goal.loop-k-preserved
loop-k-preserved c = apart_on _ _ _ c.at.ensures (rw c.standing_in-places.ensures at c.stands_again.ensures) c.if-stands_again.false c.loop-k.invariant
