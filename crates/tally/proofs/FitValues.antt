-- A value that the dials show, and that is 0 where none stands, is one.
use mathlib.Core.Path.{◌≡◌}
use mathlib.Core.Bool.{false}
use Prim.Native.Nat.{ℕ, ◌<◌}
use borrow.Author.Tests.{eqb-true, eq-eqb, lt-leb}
use lib.Dec.{eqb}
use Rattle.arithmetic.specs.Powers.{ten_to}
use Rattle.calls.proofs.Bools.{by_test}
use Rattle.tally.specs.declared.tally.Tally.{Tally}
use Rattle.tally.specs.Tally.{is_no_value}

pub is_value : (t : Tally) (value : ℕ) → value < ten_to t.dials → (t.standing ≡ 0 → value ≡ 0) → is_no_value t value ≡ false
unfolding is_no_value
is_value t value shown none =
    rw (lt-leb (ten_to t.dials) value shown)
    (by_test (eqb t.standing 0) (λ h. rw (h, eq-eqb value 0 (none (eqb-true _ _ h)))) (λ h. rw h))
