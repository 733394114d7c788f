-- The first value after a read less is that of the journal without it.
use mathlib.Core.Path.{◌≡◌, refl, sym}
use mathlib.Core.Bool.{cond}
use mathlib.Core.List.{List, [], ◌∷◌}
use lib.Dec.{eqb}
use Rattle.terms.specs.declared.entry.Entry.{Entry}
use Rattle.register.specs.declared.head.Head.{Head}
use Rattle.journal.specs.Total.{standing_in, first_in}
use Rattle.calls.proofs.Totals.{Bare, first_more}
use Rattle.tally.proofs.OfJournal.{none_first}
use Rattle.tally.proofs.Standing.{stand_one, stand_two}

module _ (head : Head) (e : Entry) where
  pub first_without : (ss : List Entry) → (ss ≡ [] → Bare head) → cond (eqb (standing_in head (e ∷ ss)) 1) 0 (first_in head (e ∷ ss)) ≡ first_in head ss
  first_without [] bare = rw (stand_one head (bare refl) e) (sym (none_first head (bare refl)))
  first_without (s ∷ ss) bare = rw (stand_two head e s ss) (first_more head e s ss)
