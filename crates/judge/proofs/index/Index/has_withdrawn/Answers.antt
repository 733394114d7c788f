-- An empty bucket has none, a crowded one leaves it to the entries, and any other has the only one that can be it.
use mathlib.Core.Path.{sym}
use native.Mathlib.Omega.{arith}
use Rattle.judge.proofs.Indexes.{none_indexed, empty_clear, one_indexed}
use Rattle.judge.proofs.index.Index.has_withdrawn.Goals as goal

pub returns-then-there-eq0 : goal.returns-then-there-eq0
returns-then-there-eq0 c = sym (none_indexed _ _ _ c.requires.1 (empty_clear _ _ _ (rw c.there-there.ensures at c.if-there-eq0.true)))

pub returns : goal.returns
returns c =
    rw (c.has_read.ensures, c.is_withdrawn.ensures, c.at-e.ensures)
    (one_indexed _ _ _ _ c.requires.1 c.there-there.ensures c.if-there-eq0.false c.if-m-there.false (omega arith))
