-- The match on the last read is the definition's.
use mathlib.Core.Path.{◌∙◌}
use borrow.Author.Rules.{sfits_of}
use mir.Syntax.{w64}
use mir.ValLaws.{to_z-of_z}
use Rattle.calls.specs.Calls.{withdrawn_answer}
use Rattle.meter.proofs.withdraw.withdrawn_answer.Goals as goal

pub returns-in-Some : goal.returns-in-Some
unfolding withdrawn_answer
returns-in-Some c =
    let advance = to_z-of_z w64 _ (sfits_of c.take_back.type_inv) ∙ c.take_back.ensures in
    rw (advance, c.in-Some.is)

pub returns-in-None : goal.returns-in-None
unfolding withdrawn_answer
returns-in-None c = rw c.in-None.is
