-- One that is it is among all; none of those passed is, or there are no more.
use mathlib.Core.Path.{refl, sym}
use Rattle.terms.specs.Entry.{is_withdrawn, those}
use Rattle.journal.specs.Journal.{entries_to}
use Rattle.journal.specs.Sound.{any}
use Rattle.journal.proofs.Entries.{those_more, any_kept}
use Rattle.judge.proofs.Indexes.{some_to}
use Rattle.judge.proofs.index.is_among.Goals as goal

pub loop-k-init : goal.loop-k-init
unfolding any those entries_to
loop-k-init c = refl

pub returns-then-is_withdrawn-has_read : goal.returns-then-is_withdrawn-has_read
returns-then-is_withdrawn-has_read c =
    sym (some_to _ _ _ c.loop-k.k (rw (c.is_withdrawn.ensures, c.has_read.ensures, c.at-e.ensures) at c.if-is_withdrawn-has_read.true) _ c.loop-k-test.true)

pub loop-k-preserved : goal.loop-k-preserved
loop-k-preserved c =
    rw (those_more _ _ is_withdrawn c.at-e.ensures c.is_withdrawn.ensures, any_kept, ← c.has_read.ensures, c.if-is_withdrawn-has_read.false) c.loop-k.invariant
