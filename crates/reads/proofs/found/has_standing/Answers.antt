-- One read at most stands on a day, so its value decides.
use mathlib.Core.Path.{sym, ◌∙◌}
use Rattle.reads.proofs.Days.{read_on_day, none_on_day}
use Rattle.reads.proofs.Counted.{rises}
use Rattle.reads.proofs.found.has_standing.Goals as goal

pub returns-in-Some : goal.returns-in-Some
returns-in-Some c = λ is. read_on_day _ _ _ (rises _ _ is) (sym c.in-Some.is ∙ c.read_on.ensures is)

pub returns-in-None : goal.returns-in-None
returns-in-None c = λ is. none_on_day _ _ _ (rises _ _ is) (sym c.in-None.is ∙ c.read_on.ensures is)
