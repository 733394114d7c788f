-- The table's rule is one test over all ten entries; past the table there is 0, as `ten_to` has it.
use Rattle.std.proofs.Common.{◌≡◌, ℕ, true, eqb, List, [], ◌∷◌, get_or, refl, sym, ◌∙◌, rules}
use Rattle.std.proofs.lemmas.Bool.{agree_below_at, eqb-true, cases_lt}
use lib.ListN.{get_or-eq_default}
use mathlib.Core.Logic.{⊎_elim}
use Rattle.arithmetic.specs.Powers.{ten_to}
use Rattle.arithmetic.proofs.Laws.{past_table}
use Rattle.arithmetic.proofs.powers.power.Goals as goal

powers : List ℕ
powers = 1 ∷ 10 ∷ 100 ∷ 1000 ∷ 10000 ∷ 100000 ∷ 1000000 ∷ 10000000 ∷ 100000000 ∷ 1000000000 ∷ []

entry : (n : ℕ) → get_or powers n 0 ≡ ten_to n
unfolding powers ten_to
entry n =
    ⊎_elim
    (λ h. eqb-true (get_or powers n 0) (ten_to n) (agree_below_at (λ k. eqb (get_or powers k 0) (ten_to k)) (λ _. true) 10 n refl h))
    (λ h. get_or-eq_default powers 0 {n = n} h ∙ sym (past_table h))
    (cases_lt n 10)

pub returns : goal.returns
unfolding powers
returns c = let e : c.unwrap_or.result ≡ get_or powers c.args.n 0 = search rules in e ∙ entry c.args.n
