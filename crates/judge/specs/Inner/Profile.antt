-- A meter that takes every type: the short ways are for these.
use Rattle.std.specs.Prelude.{Bool, true, false}
use Rattle.terms.specs.declared.profile.Profile.{Profile}
use Rattle.terms.specs.declared.profile.Profile.TheVariants.{Ordinary, Pseudo}

unfoldable pub takes_all : Profile → Bool
takes_all Ordinary = true
takes_all Pseudo = false
