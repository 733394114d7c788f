-- What run B plays of a run is what it plays of the run without its trials.
use mathlib.Core.Path.{◌≡◌, refl}
use mathlib.Core.List.{List, [], ◌∷◌}
use Prim.Native.Nat.{ℕ}
use Rattle.calls.specs.Play.{Exchange, is_trial, is_picked, picked}
use Rattle.calls.specs.Trials.{less_tried}
use Rattle.calls.proofs.Bools.{by_test}
use Rattle.calls.proofs.TriedEntries.{tried_unnamed}

module _ (meter : ℕ) where
  pub same_picked : (xs : List Exchange) → picked meter xs ≡ picked meter (less_tried xs)
  unfolding picked less_tried is_picked
  same_picked [] = refl
  same_picked (x ∷ xs) =
      by_test (is_trial x.call)
      (λ h. rw (h, tried_unnamed meter x.call h) (same_picked xs))
      (λ h. rw (h, same_picked xs))
