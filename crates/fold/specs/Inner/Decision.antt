-- What the decision on a fold answers: the journal that the call is to change, or why it may not be changed, by the number of the fold's checks.
use Rattle.std.specs.Prelude.{◌≡◌, List, ℕ, Result, IfOk}
use Rattle.terms.specs.declared.refusal.Refusal.{Refusal}
use Rattle.terms.specs.Refusal.{number_in}
use Rattle.terms.specs.Rule.{first_broken}
use Rattle.calls.specs.Checks.{fold_checks}
use Rattle.fold.specs.declared.foldable.Foldable.{Foldable}

pub record Decides (area : List ℕ) (d : Result Foldable Refusal) : Type 0 where
  pub number_is : number_in d ≡ first_broken (fold_checks area)
  pub area_is : IfOk d (λ f. f.journal.area.now ≡ area)
