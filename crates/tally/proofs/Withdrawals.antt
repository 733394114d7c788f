-- When a withdrawal changes a tally: where none of its numbers would be below 0, and the last value is one that the dials show.
use Rattle.std.specs.Prelude.{Some, None}
use mathlib.Core.Path.{◌≡◌, refl}
use mathlib.Core.Bool.{true, false, ◌&&◌, ◌||◌, cond, and-false}
use Prim.Native.Nat.{ℕ, ◌-◌, ◌≤◌, ◌<◌}
use native.Mathlib.Omega.{arith}
use borrow.Author.Tests.{eqb-true, ltb-true, ltb-false}
use lib.Dec.{eqb, ltb}
use lib.IntN.{ℤ, pos, negsuc, nat_abs, ◌-ℤ◌}
use lib.Signed.{non_neg}
use Rattle.arithmetic.specs.Powers.{ten_to}
use Rattle.terms.specs.Number.{accepted}
use Rattle.calls.proofs.Bools.{by_test, either_of, apart}
use Rattle.tally.specs.declared.tally.Tally.{Tally}
use Rattle.tally.specs.Tally.{tallied, tally_number}
use Rattle.tally.specs.Change.{Wanted, tally_for, may_be, made_to, without_read}
use Rattle.tally.specs.Inner.Moved.{shown_by, moved_to}
use Rattle.tally.proofs.FitNumbers.{number_fits}
use Rattle.tally.proofs.Moves.{less, below}

-- ---- a value that is shown, and one that is not
module _ (limit : ℕ) where
  pub is_out : (z : ℤ) → moved_to limit z ≡ None → non_neg z ≡ true → limit ≤ nat_abs z
  unfolding moved_to shown_by
  is_out (pos v) h n = by_test (ltb v limit) (λ t. let e = rw t at h in cc) (λ t. ltb-false v limit t)
  is_out (negsuc v) h n = absurd (apart n refl)

  pub is_shown : (z : ℤ) (value : ℕ) → moved_to limit z ≡ Some value → z ≡ pos value
  unfolding moved_to shown_by
  is_shown (pos v) value h = by_test (ltb v limit) (λ t. let e = rw t at h in cc) (λ t. let e = rw t at h in cc)
  is_shown (negsuc v) value h = cc

-- ---- a last value that the dials do not show makes no tally
not_shown : (t : Tally) → ten_to t.dials ≤ t.last → eqb (tally_number t) accepted ≡ false
not_shown t h =
    by_test (eqb (tally_number t) accepted)
    (λ a. let l = (number_fits t (eqb-true _ _ a)).last_shown in absurd (omega arith))
    (λ a. a)

made_not : (w : Wanted) (t : Tally) → may_be w ≡ false → made_to w t ≡ t
unfolding made_to
made_not w t h = rw h

module _ (t : Tally) (flag : ℕ) (advance : ℤ) where
  abbrev wanted : Wanted
  wanted = without_read flag advance t

  pub few_standing : t.standing < 1 → made_to wanted t ≡ t
  unfolding may_be without_read
  few_standing none = made_not wanted t (rw (below t.standing 1 none))

  pub few_flagged : t.flagged < flag → made_to wanted t ≡ t
  unfolding may_be without_read
  few_flagged few = made_not wanted t (rw (below t.flagged flag few) (and-false (non_neg (pos t.standing -ℤ pos 1))))

  pub too_few : eqb t.standing 0 || ltb t.flagged flag ≡ true → made_to wanted t ≡ t
  too_few h =
      either_of (eqb t.standing 0) (ltb t.flagged flag) h
      (λ none. few_standing (let e = eqb-true _ 0 none in omega (arith, e)))
      (λ few. few_flagged (ltb-true _ flag few))

  -- none is made of it, whatever the other numbers are
  no_last : (z : ℤ) → wanted.last ≡ z → moved_to (ten_to t.dials) z ≡ None → non_neg wanted.last && eqb (tally_number (tally_for wanted)) accepted ≡ false
  unfolding tally_for without_read
  no_last z is out =
      by_test (non_neg z)
      (λ n. rw (not_shown (tally_for wanted) (rw (← is) at (is_out (ten_to t.dials) z out n))) (and-false (non_neg wanted.last)))
      (λ n. rw (is, n))

  pub moved_out : moved_to (ten_to t.dials) wanted.last ≡ None → made_to wanted t ≡ t
  unfolding may_be
  moved_out out =
      made_not wanted t
      (rw (no_last wanted.last refl out, and-false (non_neg wanted.flagged)) (and-false (non_neg wanted.standing)))

  pub moved_shown : (last : ℕ) → moved_to (ten_to t.dials) wanted.last ≡ Some last → 1 ≤ t.standing → flag ≤ t.flagged → made_to wanted t ≡ cond (eqb (tally_number (tallied t.dials (t.standing - 1) (t.flagged - flag) (cond (eqb t.standing 1) 0 t.first) last)) accepted) (tallied t.dials (t.standing - 1) (t.flagged - flag) (cond (eqb t.standing 1) 0 t.first) last) t
  unfolding made_to may_be tally_for without_read
  moved_shown last is some off = rw (less t.standing 1 some, less t.flagged flag off, is_shown (ten_to t.dials) _ last is)
