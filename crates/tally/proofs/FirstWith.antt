-- The first value after a read more is that of the journal with it.
use mathlib.Core.Path.{◌≡◌, refl, sym}
use mathlib.Core.Bool.{cond}
use mathlib.Core.List.{List, [], ◌∷◌}
use lib.Dec.{eqb}
use Rattle.terms.specs.declared.entry.Entry.{Entry}
use Rattle.register.specs.declared.head.Head.{Head}
use Rattle.journal.specs.Journal.{first_value}
use Rattle.journal.specs.Total.{standing_in, first_in}
use Rattle.calls.proofs.Totals.{Bare, first_more, first_bare}
use Rattle.tally.proofs.Standing.{stand_none, stand_some}

module _ (head : Head) (e : Entry) where
  pub first_with : (ss : List Entry) → (ss ≡ [] → Bare head) → cond (eqb (standing_in head ss) 0) e.value (first_in head ss) ≡ first_in head (e ∷ ss)
  unfolding first_value
  first_with [] bare = rw (stand_none head (bare refl)) (sym (first_bare head (e ∷ []) (bare refl)))
  first_with (s ∷ ss) bare = rw (stand_some head s ss) (sym (first_more head e s ss))
