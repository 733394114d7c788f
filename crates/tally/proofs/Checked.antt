-- What a check of a tally finds, by the tests of the code.
use Rattle.std.specs.Prelude.{Result, Ok, Err}
use Rattle.std.specs.Result.{is_err}
use mathlib.Core.Path.{◌≡◌, sym}
use mathlib.Core.Bool.{true, false, ◌&&◌}
use Prim.Native.Nat.{ℕ}
use lib.Dec.{eqb}
use Rattle.terms.specs.declared.refusal.Refusal.{Refusal}
use Rattle.terms.specs.Number.{accepted}
use Rattle.terms.specs.Refusal.{number_in}
use Rattle.terms.proofs.Refusals.{refuses}
use Rattle.tally.specs.declared.tally.Tally.{Tally}
use Rattle.tally.specs.Tally.{is_zero}

-- a tally is compared with one of zeros
pub compared : (t : Tally) {zero : Tally} → (zero.dials ≡ 0) × ((zero.standing ≡ 0) × ((zero.flagged ≡ 0) × ((zero.first ≡ 0) × (zero.last ≡ 0)))) → eqb t.dials zero.dials && (eqb t.standing zero.standing && (eqb t.flagged zero.flagged && (eqb t.first zero.first && eqb t.last zero.last))) ≡ is_zero t
unfolding is_zero
compared t z = rw (z.0, z.1.0, z.1.1.0, z.1.1.1.0, z.1.1.1.1)

-- a check that is no error finds 0, and one that is finds another number
pub passed : {A : Type 0} (r : Result A Refusal) {number : ℕ} → number_in r ≡ number → is_err r ≡ false → number ≡ accepted
passed (Ok x) is h = sym is
passed (Err e) is h = cc

pub stopped : {A : Type 0} (r : Result A Refusal) {number : ℕ} → number_in r ≡ number → is_err r ≡ true → eqb number accepted ≡ false
stopped (Ok x) is h = cc
stopped (Err e) is h = rw (← is) (refuses e)
