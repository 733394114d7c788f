-- How many stand in a journal by its entries: none, one, or more.
use mathlib.Core.Path.{◌≡◌}
use mathlib.Core.Bool.{true, false}
use mathlib.Core.List.{List, [], ◌∷◌}
use Prim.Native.Nat.{◌+◌}
use native.Mathlib.Omega.{arith}
use borrow.Author.Tests.{eq-eqb, ne_eqb}
use lib.Dec.{eqb}
use Rattle.terms.specs.declared.entry.Entry.{Entry}
use Rattle.register.specs.declared.head.Head.{Head}
use Rattle.journal.specs.Total.{standing_in}
use Rattle.calls.proofs.Totals.{Bare, folded_bare}

module _ (head : Head) (bare : Bare head) where
  pub stand_none : standing_in head [] ≡ 0
  unfolding standing_in
  stand_none = omega (arith, folded_bare head bare)

  pub stand_one : (e : Entry) → eqb (standing_in head (e ∷ [])) 1 ≡ true
  unfolding standing_in
  stand_one e = eq-eqb (standing_in head (e ∷ [])) 1 (omega (arith, folded_bare head bare))

module _ (head : Head) (e : Entry) where
  pub stand_more : (ss : List Entry) → standing_in head (e ∷ ss) ≡ standing_in head ss + 1
  unfolding standing_in
  stand_more ss = omega arith

  pub stand_some : (ss : List Entry) → eqb (standing_in head (e ∷ ss)) 0 ≡ false
  unfolding standing_in
  stand_some ss = ne_eqb (standing_in head (e ∷ ss)) 0 (λ none. omega arith)

  pub stand_two : (s : Entry) (ss : List Entry) → eqb (standing_in head (e ∷ s ∷ ss)) 1 ≡ false
  unfolding standing_in
  stand_two s ss = ne_eqb (standing_in head (e ∷ s ∷ ss)) 1 (λ one. omega arith)
