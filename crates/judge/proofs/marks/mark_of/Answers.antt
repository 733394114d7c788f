-- The shift is a quotient.
use mathlib.Core.Path.{refl}
use Rattle.judge.specs.Inner.Marks.{mark_of}
use Rattle.judge.proofs.marks.mark_of.Goals as goal

pub returns : goal.returns
unfolding mark_of
returns c = refl
