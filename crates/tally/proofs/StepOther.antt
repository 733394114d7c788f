-- A call that does not name a meter leaves its tally, as it leaves its area.
use mathlib.Core.Path.{◌≡◌}
use mathlib.Core.Bool.{false}
use mathlib.Core.List.{List}
use Prim.Native.Nat.{ℕ}
use Rattle.register.specs.Area.{area_of}
use Rattle.calls.specs.declared.call.Call.{Call}
use Rattle.calls.specs.Calls.{step}
use Rattle.calls.specs.Play.{names}
use Rattle.calls.proofs.Frame.{Whole, unnamed_area}
use Rattle.calls.proofs.Known.{local}
use Rattle.tally.specs.declared.tally.Tally.{Tally}
use Rattle.tally.proofs.Changes.{Kept}
use Rattle.tally.proofs.StepOwn.{changed}

pub other : (meter : ℕ) (call : Call) (register : List ℕ) → Whole register → (t : Tally) → Kept (area_of meter register) t → names meter call ≡ false → Kept (area_of meter (step call register).register) (changed meter call register t)
other meter call register whole t kept unnamed = rw (unnamed_area local register whole call meter unnamed, unnamed) kept
