-- 01, The register: "The area of place p (one byte, 0 to 63) starts at 512 × p." What every call checks first, and where its area starts.
use Rattle.std.specs.Prelude.{◌≡◌, List, ℕ, ◌*◌, Result, IfOk}
use Rattle.terms.specs.declared.refusal.Refusal.{Refusal}
use Rattle.terms.specs.Refusal.{number_in}
use Rattle.register.specs.Area.{area_bytes}
use Rattle.calls.specs.Calls.{place_number}

-- what is answered: where the area starts or why not, by the number of the calls' first checks
pub record Locates (place : ℕ) (register : List ℕ) (found : Result ℕ Refusal) : Type 0 where
  pub number_is : number_in found ≡ place_number place register
  pub start_is : IfOk found (λ start. start ≡ area_bytes * place)
