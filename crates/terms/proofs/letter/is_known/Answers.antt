use mathlib.Core.Path.{◌∙◌}
use Rattle.terms.proofs.Letters.{read_known}
use Rattle.terms.proofs.letter.is_known.Goals as goal

pub returns : goal.returns
returns c = c.is_ok.ensures.value ∙ read_known _ _ c.try_from.ensures
