-- 02, 4, Pseudo meters: what kind of meter an area holds.
use Rattle.std.specs.Prelude.{Bool, ◌||◌, cond, ℕ, eqb}
use Rattle.terms.specs.declared.profile.Profile.{Profile}
use Rattle.terms.specs.declared.profile.Profile.TheVariants.{Ordinary, Pseudo}
use Rattle.terms.specs.Entry.{kind_meter, kind_pseudo}
use Rattle.terms.specs.Letter.{letter_i, letter_f, is_known}

-- the kind of the meter's entry: 01, "Kind 1, meter, first and only first"; 02, 4: "Kind 7 stands where kind 1 would, same body"
unfoldable pub meter_kind : Profile → ℕ
meter_kind Ordinary = kind_meter
meter_kind Pseudo = kind_pseudo

-- the profile that an entry of this kind says. A kind that is no profile's is no meter's, and what it says does not matter.
unfoldable pub profile_of : ℕ → Profile
profile_of kind = cond (eqb kind (meter_kind Pseudo)) Pseudo Ordinary

-- the types that such a meter takes: all eleven; "types I and F only (source document 001, 2.1.4)"
unfoldable pub takes : Profile → ℕ → Bool
takes Ordinary l = is_known l
takes Pseudo l = eqb l letter_i || eqb l letter_f
