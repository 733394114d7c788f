-- The volume's number: that of the threshold where it is not 0, and else that of the capacity; and of which reads it is a query.
use Rattle.std.specs.Prelude.{Option, Some, None}
use mathlib.Core.Path.{◌≡◌, refl}
use mathlib.Core.Bool.{Bool, true, false, not, cond, ◌&&◌, ◌||◌, and-eq-true_iff}
use mathlib.Core.List.{[], ◌∷◌}
use Prim.Native.Nat.{ℕ}
use native.Mathlib.Omega.{arith}
use borrow.Author.Tests.{not-true}
use lib.Dec.{eqb}
use lib.IntN.{ℤ, pos}
use lib.Signed.{lt_z}
use Rattle.arithmetic.specs.Advance.{advance_of}
use Rattle.terms.specs.declared.entry.Entry.{Entry}
use Rattle.terms.specs.declared.entry.Recent.{Recent}
use Rattle.terms.specs.declared.submission.Submission.{Submission}
use Rattle.terms.specs.Letter.{is_unchecked}
use Rattle.terms.specs.Number.{accepted, low, high, over_capacity}
use Rattle.terms.specs.Rule.{rule, first_broken}
use Rattle.rules.specs.declared.volume.Compared.{Compared}
use Rattle.rules.specs.declared.volume.Compared.TheVariants.{Low, High, Neither}
use Rattle.rules.specs.Volume.{advance_over, has_volume_check, has_threshold, last_advance, compared, compared_number, compared_in, is_within_capacity, is_low_volume, is_high_volume, is_over_capacity, volume_number}

-- ---- the number
by_case : (x : Compared) (over : Bool) → first_broken (rule low (eqb (compared_number x) low) ∷ rule high (eqb (compared_number x) high) ∷ rule over_capacity over ∷ []) ≡ cond (eqb (compared_number x) accepted) (cond over over_capacity accepted) (compared_number x)
unfolding compared_number
by_case Low over = refl
by_case High over = refl
by_case Neither over = refl

and_false : (b : Bool) → b && false ≡ false
and_false true = refl
and_false false = refl

module _ (n : ℕ) (s : Submission) (flag : ℕ) (recent : Recent) where
  pub threshold_first : (capacity : ℕ) → volume_number n capacity s flag recent ≡ cond (eqb (compared_number (compared_in n s flag recent)) accepted) (cond (is_over_capacity n capacity s flag recent) over_capacity accepted) (compared_number (compared_in n s flag recent))
  unfolding volume_number is_low_volume is_high_volume
  threshold_first capacity = by_case (compared_in n s flag recent) (is_over_capacity n capacity s flag recent)

  pub none_stands : (capacity : ℕ) → recent.last ≡ None → volume_number n capacity s flag recent ≡ accepted
  unfolding compared compared_number is_within_capacity is_over_capacity
  none_stands capacity h = rw (threshold_first, h, and_false)

  -- the tests of an advance a over the last read
  module _ {r0 : Entry} {a : ℤ} (h : recent.last ≡ Some r0) (e : a ≡ advance_of n s.value flag r0.value) where
    pub threshold_over : compared n a s (Some r0) recent.second ≡ compared_in n s flag recent
    unfolding advance_over
    threshold_over = rw (h, e)

    pub capacity_over : (capacity : ℕ) → has_volume_check s && not (is_within_capacity capacity a s (Some r0)) ≡ is_over_capacity n capacity s flag recent
    unfolding advance_over is_over_capacity
    capacity_over capacity = rw (h, e)

    pub capacity_tested : (capacity : ℕ) {checked within : Bool} → checked ≡ has_volume_check s → within ≡ is_within_capacity capacity a s (Some r0) → checked && not within ≡ is_over_capacity n capacity s flag recent
    capacity_tested capacity c w = rw (c, w, capacity_over capacity)

-- ---- a query, 19 or 20, is of a read with a volume check, over one that stands
pub record Query (s : Submission) (last : Option Entry) : Type 0 where
  pub checked : is_unchecked s.letter ≡ false
  pub read : Entry
  pub stands : last ≡ Some read

abbrev is_query : Compared → Bool
is_query x = eqb (compared_number x) low || eqb (compared_number x) high

asked : (b : Bool) (x : Compared) → is_query (cond b x Neither) ≡ true → b ≡ true
unfolding compared_number
asked true x h = refl
asked false x h = h

threshold_checked : (s : Submission) (b : Bool) → has_threshold s && b ≡ true → is_unchecked s.letter ≡ false
unfolding has_threshold has_volume_check
threshold_checked s b h =
    not-true _ ((and-eq-true_iff (has_volume_check s) _).0 ((and-eq-true_iff (has_threshold s) b).0 h).0).0

query_over : (n : ℕ) (a : ℤ) (s : Submission) (last second : Option Entry) → is_query (compared n a s last second) ≡ true → Query s last
unfolding compared compared_number
query_over n a s (Some r0) (Some r_1) h =
    record {
      checked = threshold_checked s (lt_z (pos 0) (last_advance n r0 r_1)) (asked _ _ h);
      read = r0;
      stands = refl;
    }
query_over n a s (Some r0) None h = absurd (let z : ◌≡◌ {A = ℕ} 0 1 = cc in omega arith)
query_over n a s None r h = absurd (let z : ◌≡◌ {A = ℕ} 0 1 = cc in omega arith)

pub query : (n : ℕ) (s : Submission) (flag : ℕ) (recent : Recent) → is_low_volume n s flag recent || is_high_volume n s flag recent ≡ true → Query s recent.last
unfolding is_low_volume is_high_volume
query n s flag recent h = query_over n (advance_over n s.value flag recent.last) s recent.last recent.second h
