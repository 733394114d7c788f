-- A trial is no call on a meter, so the ledger of a run is that of the run without its trials.
use mathlib.Core.Path.{◌≡◌, refl}
use mathlib.Core.Bool.{true, false}
use mathlib.Core.List.{List, [], ◌∷◌}
use Prim.Native.Nat.{ℕ}
use Rattle.calls.specs.declared.call.Call.{Call}
use Rattle.calls.specs.Play.{Exchange, is_trial, names}
use Rattle.calls.specs.Ledger.{Ledger, is_accepted, ledger_after}
use Rattle.calls.specs.Trials.{less_tried}
use Rattle.calls.proofs.Bools.{by_test}

module _ (meter : ℕ) where
  pub tried_unnamed : (call : Call) → is_trial call ≡ true → names meter call ≡ false
  unfolding names
  tried_unnamed call h = rw h

  pub same_ledger : (xs : List Exchange) (l : Ledger) → ledger_after meter xs l ≡ ledger_after meter (less_tried xs) l
  unfolding ledger_after less_tried is_accepted
  same_ledger [] l = refl
  same_ledger (x ∷ xs) l =
      by_test (is_trial x.call)
      (λ h. rw (h, tried_unnamed x.call h) (same_ledger xs l))
      (λ h. rw h (same_ledger xs _))
