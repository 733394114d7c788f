-- The two tests are those of the number, in its order.
use mathlib.Core.Path.{refl}
use borrow.Author.Tests.{ne_eqb, eq-eqb, le-leb, lt-leb}
use Rattle.terms.specs.Refusal.{number_of}
use Rattle.register.specs.Area.{areas_in}
use Rattle.calls.specs.Calls.{is_misfit, is_no_place, place_number}
use Rattle.place.proofs.locate.Goals as goal

pub returns-then-register-ne-REGISTER_BYTES : goal.returns-then-register-ne-REGISTER_BYTES
unfolding number_of place_number is_misfit
returns-then-register-ne-REGISTER_BYTES c = record { number_is = rw (ne_eqb _ _ c.if-register-ne-REGISTER_BYTES.true); start_is = tt }

pub returns-then-place-ge-AREAS : goal.returns-then-place-ge-AREAS
unfolding number_of place_number is_misfit is_no_place areas_in
returns-then-place-ge-AREAS c =
    record {
      number_is = rw (eq-eqb _ _ c.if-register-ne-REGISTER_BYTES.false, le-leb _ _ c.if-place-ge-AREAS.true);
      start_is = tt;
    }

pub returns : goal.returns
unfolding place_number is_misfit is_no_place areas_in
returns c =
    record {
      number_is = rw (eq-eqb _ _ c.if-register-ne-REGISTER_BYTES.false, lt-leb _ _ c.if-place-ge-AREAS.false);
      start_is = refl;
    }
