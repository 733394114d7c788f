-- Each case of the enum has the paper's number.
use mathlib.Core.Path.{◌≡◌, refl}
use Prim.Native.Nat.{◌+◌}
use denote.Enum.Declared.{tag_of}
use Rattle.terms.specs.contracts.refusal.Refusal.{the_type}
use Rattle.terms.specs.declared.refusal.Refusal.{Refusal}
use Rattle.terms.specs.declared.refusal.Refusal.TheVariants as r
use Rattle.terms.specs.Refusal.{number_of}
use Rattle.terms.proofs.refusal.U8FromRefusal.from.Goals as goal

numbered : (refusal : Refusal) → tag_of the_type refusal + 1 ≡ number_of refusal
unfolding number_of
numbered r.Repeat = refl
numbered r.Misfit = refl
numbered r.NoMeter = refl
numbered r.Damaged = refl
numbered r.Missing = refl
numbered r.Content = refl
numbered r.Date = refl
numbered r.Withdrawn = refl
numbered r.At = refl
numbered r.Eh = refl
numbered r.Bf = refl
numbered r.BackDated = refl
numbered r.Df = refl
numbered r.IndicatorOnOpening = refl
numbered r.NoOriginal = refl
numbered r.Full = refl
numbered r.Ee = refl
numbered r.Ef = refl
numbered r.Low = refl
numbered r.High = refl
numbered r.Capacity = refl
numbered r.NotStanding = refl
numbered r.NotLast = refl
numbered r.Enrolled = refl
numbered r.Plate = refl
numbered r.Sheet = refl
numbered r.NoFold = refl
numbered r.OldestKept = refl
numbered r.OtherType = refl

pub returns : goal.returns
returns c = numbered c.args.refusal
