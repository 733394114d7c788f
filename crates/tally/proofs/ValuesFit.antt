-- What a value that is one says of it: the dials show it, and it is 0 where none stands.
use mathlib.Core.Path.{◌≡◌}
use mathlib.Core.Bool.{false, not, ◌&&◌}
use Prim.Native.Nat.{ℕ, ◌<◌}
use borrow.Author.Tests.{eqb-true, eq-eqb, leb-false, not-false}
use lib.Dec.{eqb, leb}
use Rattle.arithmetic.specs.Powers.{ten_to}
use Rattle.journal.proofs.Bools.{neither}
use Rattle.tally.specs.declared.tally.Tally.{Tally}
use Rattle.tally.specs.Tally.{is_no_value}

pub value_is : (t : Tally) (value : ℕ) → is_no_value t value ≡ false → (value < ten_to t.dials) × (t.standing ≡ 0 → value ≡ 0)
unfolding is_no_value
value_is t value h =
    let n = neither (leb (ten_to t.dials) value) (eqb t.standing 0 && not (eqb value 0)) h in
    (leb-false _ _ n.0, λ none. eqb-true value 0 (not-false (eqb value 0) (rw (eq-eqb t.standing 0 none) at n.1)))
