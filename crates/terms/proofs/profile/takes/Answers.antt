-- Each arm's test is the definition's for its profile.
use Rattle.terms.specs.Profile.{takes}
use Rattle.terms.proofs.profile.takes.Goals as goal

pub returns-in-Ordinary : goal.returns-in-Ordinary
unfolding takes
returns-in-Ordinary c = rw (c.in-Ordinary.is, c.is_known.ensures)

pub returns-in-Pseudo : goal.returns-in-Pseudo
unfolding takes
returns-in-Pseudo c = rw c.in-Pseudo.is
