use mathlib.Core.Path.{refl}
use Rattle.reads.specs.Search.{not_found}
use Rattle.reads.proofs.search.not_found.Goals as goal

pub returns : goal.returns
unfolding not_found
returns c = refl
