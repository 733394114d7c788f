-- Each arm's number is its profile's.
use Rattle.terms.specs.Profile.{meter_kind}
use Rattle.terms.proofs.profile.meter_kind.Goals as goal

pub returns-in-Ordinary : goal.returns-in-Ordinary
unfolding meter_kind
returns-in-Ordinary c = rw c.in-Ordinary.is

pub returns-in-Pseudo : goal.returns-in-Pseudo
unfolding meter_kind
returns-in-Pseudo c = rw c.in-Pseudo.is
