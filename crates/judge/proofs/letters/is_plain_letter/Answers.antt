-- A letter that has a bit is plain.
use mathlib.Core.Path.{sym, ◌∙◌}
use Rattle.std.proofs.lemmas.Map.Keys.{le_from_is_le}
use Rattle.judge.proofs.Bits.{plain_letter}
use Rattle.judge.proofs.letters.is_plain_letter.Goals as goal

pub returns-then-contains : goal.returns-then-contains
returns-then-contains c =
    let within = rw (c.new.ensures.start, c.new.ensures.end) at c.if-contains.ensures.cases in
    λ h. plain_letter _ (le_from_is_le _ _ within.0) (le_from_is_le _ _ within.1) (sym c.is_marked.ensures ∙ h)
