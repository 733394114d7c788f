-- 01, The register: an area is all zero or sound, and "Anything else non-zero is damaged." No call damages one.
use Rattle.std.specs.Prelude.{◌≡◌, Bool, true, ◌||◌, List, ℕ}
use Rattle.register.specs.Area.{area_of, all_zero}
use Rattle.journal.specs.Sound.{is_sound}
use Rattle.calls.specs.declared.call.Call.{Call}
use Rattle.calls.specs.Calls.{step}

-- all zero ("not enrolled") or sound
unfoldable pub is_good : List ℕ → Bool
is_good a = all_zero a || is_sound a

-- THE CLAIM: no call damages an area, so that 4 means damage from outside. On EVERY register, of every place, whatever the other areas hold.
unfoldable pub CallsKeepAreas : Type 0
CallsKeepAreas =
    (call : Call) (register : List ℕ) (place : ℕ)
    → is_good (area_of place register) ≡ true
    → is_good (area_of place (step call register).register) ≡ true
