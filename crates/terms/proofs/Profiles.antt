-- The profiles: each is the one that its kind says, and no kind is the zero that ends a journal.
use mathlib.Core.Path.{◌≡◌, refl}
use mathlib.Core.Bool.{false}
use lib.Dec.{eqb}
use Rattle.terms.specs.declared.profile.Profile.{Profile}
use Rattle.terms.specs.declared.profile.Profile.TheVariants.{Ordinary, Pseudo}
use Rattle.terms.specs.Profile.{meter_kind, profile_of}

pub same_profile : (p : Profile) → profile_of (meter_kind p) ≡ p
unfolding meter_kind profile_of
same_profile Ordinary = refl
same_profile Pseudo = refl

pub some_kind : (p : Profile) → eqb 0 (meter_kind p) ≡ false
unfolding meter_kind
some_kind Ordinary = refl
some_kind Pseudo = refl
