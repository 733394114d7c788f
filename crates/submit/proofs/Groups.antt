-- Groups of rules whose numbers write nothing: a refusal with one ends the decision, and where none is broken the next group decides.
use Rattle.std.specs.Prelude.{Err}
use mathlib.Core.Path.{◌≡◌, refl}
use mathlib.Core.Bool.{Bool, true, false, not, ◌&&◌, cond}
use mathlib.Core.List.{List, [], ◌∷◌, ◌++◌}
use Prim.Native.Nat.{ℕ}
use native.Mathlib.Omega.{arith}
use Rattle.std.proofs.lemmas.Bool.Decides.{nat_tests}
use lib.Dec.{eqb}
use Rattle.terms.specs.declared.refusal.Refusal.{Refusal}
use Rattle.terms.specs.declared.submission.Submission.{Submission}
use Rattle.terms.specs.Number.{accepted}
use Rattle.terms.specs.Refusal.{number_of}
use Rattle.terms.specs.Rule.{Rule, first_broken}
use Rattle.terms.proofs.Refusals.{refuses}
use Rattle.calls.specs.Calls.{refused, is_volume_query}
use Rattle.submit.specs.Inner.Decision.{carried_out, submitted}

abbrev writes_nothing : ℕ → Bool
writes_nothing n = not (eqb n accepted) && not (is_volume_query n)

abbrev pub all_write_nothing : List Rule → Bool
all_write_nothing [] = true
all_write_nothing (r ∷ rs) = writes_nothing r.number && all_write_nothing rs

-- the number of two groups is that of the first where it has one, and else that of the second
in_turn : (xs ys : List Rule) → all_write_nothing xs ≡ true → first_broken (xs ++ ys) ≡ cond (eqb (first_broken xs) accepted) (first_broken ys) (first_broken xs)
in_turn [] ys h = refl
in_turn (r ∷ rs) ys h = grind (arith, nat_tests, in_turn rs ys)

no_query : (xs : List Rule) → all_write_nothing xs ≡ true → is_volume_query (first_broken xs) ≡ false
no_query [] h = refl
no_query (r ∷ rs) h = grind (arith, nat_tests, no_query rs)

module _ (xs ys : List Rule) (quiet : all_write_nothing xs ≡ true) where
  pub ends : (refusal : Refusal) → number_of refusal ≡ first_broken xs → number_of refusal ≡ first_broken (xs ++ ys)
  ends refusal e = rw (in_turn xs ys quiet, ← e, refuses refusal)

  pub passes : accepted ≡ first_broken xs → {n : ℕ} → n ≡ first_broken ys → n ≡ first_broken (xs ++ ys)
  passes e h = rw (in_turn xs ys quiet, ← e, h)

  module _ (s : Submission) (area : List ℕ) where
    pub stops : (refusal : Refusal) → number_of refusal ≡ first_broken xs → carried_out (Err refusal) area ≡ submitted s area (first_broken (xs ++ ys))
    unfolding submitted
    stops refusal e = rw (← ends refusal e, refuses refusal, e, no_query xs quiet)

    pub goes_on : accepted ≡ first_broken xs → submitted s area (first_broken ys) ≡ submitted s area (first_broken (xs ++ ys))
    goes_on e = rw (in_turn xs ys quiet, ← e)

    -- both at once
    one_or_other : (none : Bool) → eqb (first_broken xs) accepted ≡ none → submitted s area (first_broken (xs ++ ys)) ≡ cond none (submitted s area (first_broken ys)) (refused (first_broken xs) area)
    unfolding submitted
    one_or_other true e = rw (in_turn xs ys quiet, e)
    one_or_other false e = rw (in_turn xs ys quiet, e, e, no_query xs quiet)

    pub one_group : submitted s area (first_broken (xs ++ ys)) ≡ cond (eqb (first_broken xs) accepted) (submitted s area (first_broken ys)) (refused (first_broken xs) area)
    one_group = one_or_other (eqb (first_broken xs) accepted) refl
