use Rattle.judge.proofs.marks.is_marked.Goals as goal

pub returns : goal.returns
returns c = rw c.mark_of.ensures
