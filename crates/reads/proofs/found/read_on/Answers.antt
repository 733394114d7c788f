use mathlib.Core.Path.{ap}
use Rattle.reads.specs.declared.search.Search.{Search}
use Rattle.reads.specs.Search.{search_answer}
use Rattle.reads.proofs.found.read_on.Goals as goal

pub returns : goal.returns
unfolding search_answer
returns c = λ is. ap (λ (s : Search). s.found) (c.search_day.ensures is)
