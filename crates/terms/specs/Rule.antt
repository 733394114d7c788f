-- 00, demand 2: "accepted if its rules accept, otherwise the number of the first rule broken". An order of checks is a list of rules.
use Rattle.std.specs.Prelude.{Bool, cond, List, [], ◌∷◌, ℕ}
use Rattle.terms.specs.Number.{accepted}

-- a number and whether its condition holds
pub record Rule : Type 0 where
  pub number : ℕ
  pub broken : Bool

abbrev pub rule : ℕ → Bool → Rule
rule number broken = record { number = number; broken = broken }

-- the number of the first rule broken, and 0 where none is
abbrev pub first_broken : List Rule → ℕ
first_broken [] = accepted
first_broken (r ∷ rs) = cond r.broken r.number (first_broken rs)
