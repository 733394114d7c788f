-- Each arm is a case of the definition, and its refusal has that case's number.
use Rattle.terms.specs.Refusal.{number_of}
use Rattle.rules.specs.Volume.{compared_number}
use Rattle.rules.proofs.volume.within_threshold.Goals as goal

pub returns-in-Low : goal.returns-in-Low
unfolding compared_number number_of
returns-in-Low c = rw c.in-Low.is

pub returns-in-High : goal.returns-in-High
unfolding compared_number number_of
returns-in-High c = rw c.in-High.is

pub returns-in-Neither : goal.returns-in-Neither
unfolding compared_number
returns-in-Neither c = rw c.in-Neither.is
