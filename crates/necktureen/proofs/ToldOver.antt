-- What is told of a list of calls makes of a tally what the list makes of it.
use mathlib.Core.Path.{◌≡◌, refl, ap, ◌∙◌}
use mathlib.Core.Bool.{Bool, true, false, cond}
use mathlib.Core.List.{List, [], ◌∷◌}
use Prim.Native.Nat.{ℕ}
use lib.ListN.{length}
use Rattle.calls.specs.declared.call.Call.{Call}
use Rattle.calls.specs.Calls.{step}
use Rattle.calls.specs.Play.{exchanges, names}
use Rattle.calls.proofs.Replies.{reply_form}
use Rattle.tally.specs.declared.tally.Tally.{Tally}
use Rattle.tally.specs.Kept.{tally_over}
use Rattle.necktureen.specs.Told.{Told, told_by, told_if, all_told, told_over}
use Rattle.necktureen.proofs.Tells.{tells}

-- ---- a list of calls: each that names the meter is told, and changes the tally as it would itself
told_if_lem : (named : Bool) (said : Told) (rest : List Told) (t : Tally) → told_over (told_if named said rest) t ≡ told_over rest (cond named (told_by said t) t)
unfolding told_over
told_if_lem true said rest t = refl
told_if_lem false said rest t = refl

pub told_over_lem : (meter : ℕ) (any : ℕ → Told) (calls : List Call) (register : List ℕ) (t : Tally) → told_over (all_told meter any (exchanges calls register)) t ≡ tally_over meter (exchanges calls register) t
unfolding all_told told_over tally_over exchanges
told_over_lem meter any [] register t = refl
told_over_lem meter any (call ∷ calls) register t =
    let next = (step call register).register in
    let rest = exchanges calls next in
    told_if_lem (names meter call) _ (all_told meter any rest) t
    ∙ told_over_lem meter any calls next _
    ∙ ap (λ (after : Tally). tally_over meter rest (cond (names meter call) after t)) (tells call (step call register).reply (reply_form call register) (any (length rest)) t)
