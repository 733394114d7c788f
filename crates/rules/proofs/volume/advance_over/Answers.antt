-- The match on the last read is the definition's.
use mathlib.Core.Path.{sym, ap, ◌∙◌}
use native.Mathlib.Omega.{arith}
use Rattle.rules.specs.Volume.{advance_over}
use Rattle.rules.proofs.Laws.{advance_word}
use Rattle.rules.proofs.volume.advance_over.Goals as goal

pub returns-in-Some : goal.returns-in-Some
unfolding advance_over
returns-in-Some c =
    (advance_word _ _ _ _ c.advance.ensures (omega arith) (omega arith) (omega arith)).reads
    ∙ sym (ap (advance_over _ _ _) c.in-Some.is)

pub returns-in-None : goal.returns-in-None
unfolding advance_over
returns-in-None c = sym (ap (advance_over _ _ _) c.in-None.is)
