-- A call that names a meter changes its tally as it changes its area.
use mathlib.Core.Path.{◌≡◌}
use mathlib.Core.Bool.{true, cond}
use mathlib.Core.List.{List}
use Prim.Native.Nat.{ℕ, ◌<◌}
use Rattle.register.specs.Area.{areas_in, area_of}
use Rattle.register.proofs.Areas.{area_length}
use Rattle.calls.specs.declared.call.Call.{Call}
use Rattle.calls.specs.Calls.{act, place_of, step}
use Rattle.calls.specs.Play.{names}
use Rattle.calls.proofs.Frame.{Whole, Near, room, own_reply, own_area_after, named_place}
use Rattle.calls.proofs.Known.{local}
use Rattle.tally.specs.declared.tally.Tally.{Tally}
use Rattle.tally.specs.Change.{tally_after}
use Rattle.tally.specs.Kept.{is_dated}
use Rattle.tally.proofs.Changes.{Kept, call_kept}

-- what an exchange at a meter makes of a tally
abbrev pub changed : ℕ → Call → List ℕ → Tally → Tally
changed meter call register t = cond (names meter call) (tally_after call (step call register).reply t) t

pub own : (meter : ℕ) → Near meter → (call : Call) (register : List ℕ) → Whole register → is_dated call ≡ true → (t : Tally) → Kept (area_of meter register) t → names meter call ≡ true → Kept (area_of meter (step call register).register) (changed meter call register t)
own meter near call register whole dated t kept named =
    let at = named_place meter call named in
    let here : place_of call < areas_in register = rw at (near register whole) in
    let size = area_length meter register (room meter register (near register whole) whole) in
    let bytes : area_of meter (step call register).register ≡ (act call (area_of meter register)).area = cc (own_area_after local register whole call here) in
    let reply : (step call register).reply ≡ (act call (area_of meter register)).reply = cc (own_reply local register whole call here) in
    rw (bytes, named, reply) (call_kept (area_of meter register) t kept call size dated)
