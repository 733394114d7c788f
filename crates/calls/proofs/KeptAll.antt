-- An area that is all zero or sound stays so: the one that a call names by the law about one area, every other because it keeps its bytes.
use mathlib.Core.Path.{◌≡◌, ap, ◌∙◌}
use mathlib.Core.Bool.{true}
use mathlib.Core.List.{List}
use Prim.Native.Nat.{ℕ, ◌<◌}
use borrow.Author.Tests.{eqb-true, eqb-false}
use lib.Dec.{eqb}
use Rattle.terms.specs.Number.{accepted}
use Rattle.register.specs.Area.{areas_in, area_of}
use Rattle.register.proofs.Areas.{area_length}
use Rattle.calls.specs.declared.call.Call.{Call}
use Rattle.calls.specs.Calls.{place_of, place_number, Done, step}
use Rattle.calls.specs.Kept.{is_good, CallsKeepAreas}
use Rattle.calls.proofs.Bools.{by_test}
use Rattle.calls.proofs.Kept.{GoodArea, keeps}
use Rattle.calls.proofs.Frame.{Whole, room, own_area_after, other_area}
use Rattle.calls.proofs.Known.{local}
use Rattle.calls.proofs.Refusals.{stops, there}

module _ (call : Call) (register : List ℕ) where
  abbrev after : List ℕ
  after = (step call register).register

  -- the area that the call names
  own_good : Whole register → place_of call < areas_in register → is_good (area_of (place_of call) register) ≡ true → is_good (area_of (place_of call) after) ≡ true
  own_good whole near good =
      let p = place_of call in
      let area : GoodArea (area_of p register) = record { size = area_length p register (room p register near whole); good = good } in
      ap is_good (own_area_after local register whole call near) ∙ (keeps call (area_of p register) area).good

  -- a call that is let through, and one whose place is refused
  placed_good : Whole register → place_of call < areas_in register → (p : ℕ) → is_good (area_of p register) ≡ true → is_good (area_of p after) ≡ true
  placed_good whole near p good =
      by_test (eqb (place_of call) p)
      (λ h. let e : place_of call ≡ p = eqb-true (place_of call) p h in rw (← e) (own_good whole near (rw e good)))
      (λ h. ap is_good (other_area local register whole call p (eqb-false (place_of call) p h)) ∙ good)

  area_good : (p : ℕ) → is_good (area_of p register) ≡ true → is_good (area_of p after) ≡ true
  area_good p good =
      by_test (eqb (place_number (place_of call) register) accepted)
      (λ h. let t = there call register h in placed_good t.0 t.1 p good)
      (λ h. ap (λ (d : Done). is_good (area_of p d.register)) (stops call register h) ∙ good)

pub keeps_all : CallsKeepAreas
unfolding CallsKeepAreas
keeps_all = area_good
