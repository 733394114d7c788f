-- Each arm's answer is its profile's.
use Rattle.judge.specs.Inner.Profile.{takes_all}
use Rattle.judge.proofs.body.Body.takes_all.Goals as goal

pub returns-in-Ordinary : goal.returns-in-Ordinary
unfolding takes_all
returns-in-Ordinary c = rw c.in-Ordinary.is

pub returns-in-Pseudo : goal.returns-in-Pseudo
unfolding takes_all
returns-in-Pseudo c = rw c.in-Pseudo.is
