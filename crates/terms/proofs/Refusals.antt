-- A refusal has no number of an accepted call, and what is answered with one refuses.
use Rattle.std.specs.Prelude.{Result, Ok, Err}
use Rattle.std.specs.Result.{IsErrAnd}
use mathlib.Core.Path.{◌≡◌, refl, ap}
use mathlib.Core.Bool.{false}
use lib.Dec.{eqb}
use Rattle.terms.specs.Number.{accepted}
use Rattle.terms.specs.declared.refusal.Refusal.{Refusal}
use Rattle.terms.specs.declared.refusal.Refusal.TheVariants as r
use Rattle.terms.specs.Refusal.{number_of}

pub refuses : (refusal : Refusal) → eqb (number_of refusal) accepted ≡ false
unfolding number_of
refuses r.Repeat = refl
refuses r.Misfit = refl
refuses r.NoMeter = refl
refuses r.Damaged = refl
refuses r.Missing = refl
refuses r.Content = refl
refuses r.Date = refl
refuses r.Withdrawn = refl
refuses r.At = refl
refuses r.Eh = refl
refuses r.Bf = refl
refuses r.BackDated = refl
refuses r.Df = refl
refuses r.IndicatorOnOpening = refl
refuses r.NoOriginal = refl
refuses r.Full = refl
refuses r.Ee = refl
refuses r.Ef = refl
refuses r.Low = refl
refuses r.High = refl
refuses r.Capacity = refl
refuses r.NotStanding = refl
refuses r.NotLast = refl
refuses r.Enrolled = refl
refuses r.Plate = refl
refuses r.Sheet = refl
refuses r.NoFold = refl
refuses r.OldestKept = refl
refuses r.OtherType = refl

-- a refusal that `?` passes on
pub passed_on : {A : Type 0} (r : Result A Refusal) {refusal : Refusal} → IsErrAnd r (λ e. e ≡ refusal) → r ≡ Err refusal
passed_on (Ok x) h = absurd h
passed_on (Err e) h = ap Err h
