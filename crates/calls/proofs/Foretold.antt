-- A trial answers as the submission would, and leaves the register.
use mathlib.Core.Path.{ap}
use lib.Dec.{eqb}
use Rattle.terms.specs.Number.{accepted}
use Rattle.register.specs.Area.{area_of}
use Rattle.register.proofs.Areas.{own_area}
use Rattle.calls.specs.Calls.{submit_in, trial_in, act, place_of, refusal_of, place_number, on_area, done, step}
use Rattle.calls.specs.Trials.{TrialsForetell}
use Rattle.calls.proofs.Bools.{by_test}

pub foretells : TrialsForetell
unfolding TrialsForetell step act trial_in place_of refusal_of on_area
foretells place s register =
    by_test (eqb (place_number place register) accepted)
    (λ h. rw h (ap (done (submit_in s (area_of place register)).reply) (own_area place register)))
    (λ h. rw h)
