-- A bucket that is free takes the entry, and any other is crowded.
use borrow.Author.Tests.{eq-eqb, ne_eqb}
use Rattle.judge.specs.Inner.Index.{put_in}
use Rattle.judge.proofs.index.Index.put.Goals as goal
use Rattle.judge.proofs.index.Index.put.Goals.{then-self-at-eq0, else-self-at-eq0}

pub returns : goal.returns
unfolding put_in
returns c =
    let at = c.bucket_of-at.ensures in
    elim c.if-self-at-eq0.branch [
      | then-self-at-eq0 w ↦ rw (w.self-is, at, eq-eqb _ _ (rw at at w.if-self-at-eq0.true))
      | else-self-at-eq0 w ↦ rw (w.self-is, at, ne_eqb _ _ (rw at at w.if-self-at-eq0.false))
    ]
