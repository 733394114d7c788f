-- Bytes that are zero to the end: from a place on, from a later one, and where an entry was zeroed.
use mathlib.Core.Path.{◌≡◌, refl, ap}
use mathlib.Core.Bool.{true}
use mathlib.Core.List.{List, [], ◌∷◌}
use Prim.Native.Nat.{ℕ, zero, suc, ◌+◌, ◌-◌, ◌≤◌}
use native.Mathlib.Omega.{arith}
use borrow.Author.Tests.{eqb-true, eq-eqb}
use lib.Dec.{eqb}
use lib.ListN.{get_or, drop, replicate}
use lib.Seq.{drop-drop}
use Rattle.terms.specs.declared.entry.Entry.{Entry}
use Rattle.register.specs.Area.{all_zero}
use Rattle.register.specs.Bytes.{word_at, long_at}
use Rattle.register.specs.Entries.{entry_at, zero_entry}
use Rattle.calls.proofs.Bools.{both, together}

pub zero_at : (l : List ℕ) (i : ℕ) → all_zero l ≡ true → get_or l i 0 ≡ 0
unfolding all_zero
zero_at [] i h = refl
zero_at (b ∷ bs) zero h = eqb-true b 0 (both (eqb b 0) (all_zero bs) h).0
zero_at (b ∷ bs) (suc i) h = zero_at bs i (both (eqb b 0) (all_zero bs) h).1

pub zero_drop : (m : ℕ) (l : List ℕ) → all_zero l ≡ true → all_zero (drop m l) ≡ true
unfolding all_zero
zero_drop zero l h = h
zero_drop (suc m) [] h = refl
zero_drop (suc m) (b ∷ bs) h = zero_drop m bs (both (eqb b 0) (all_zero bs) h).1

pub zero_replicate : (n : ℕ) → all_zero (replicate n 0) ≡ true
unfolding all_zero
zero_replicate zero = refl
zero_replicate (suc n) = zero_replicate n

-- zero from n on is zero from every later place on
pub zero_past : (l : List ℕ) (n m : ℕ) → n ≤ m → all_zero (drop n l) ≡ true → all_zero (drop m l) ≡ true
zero_past l n m g h =
    let e : n + (m - n) ≡ m = omega arith in
    rw (drop-drop (m - n) n l, e) at (zero_drop (m - n) (drop n l) h)

-- a zero byte before zeros
zero_before : (l : List ℕ) (n : ℕ) → get_or l n 0 ≡ 0 → all_zero (drop (suc n) l) ≡ true → all_zero (drop n l) ≡ true
unfolding all_zero
zero_before [] zero z h = refl
zero_before [] (suc n) z h = refl
zero_before (b ∷ bs) zero z h = together (eq-eqb b 0 z) h
zero_before (b ∷ bs) (suc n) z h = zero_before bs n z h

module _ (l : List ℕ) where
  one_before : (n m : ℕ) → m ≡ suc n → get_or l n 0 ≡ 0 → all_zero (drop m l) ≡ true → all_zero (drop n l) ≡ true
  one_before n m e z h = zero_before l n z (rw e at h)

  zero_word : (i m : ℕ) → m ≡ i + 2 → word_at l i ≡ 0 → all_zero (drop m l) ≡ true → all_zero (drop i l) ≡ true
  unfolding word_at
  zero_word i m e z h = one_before i (i + 1) (omega arith) (omega arith) (one_before (i + 1) m (omega arith) (omega arith) h)

  zero_long : (i m : ℕ) → m ≡ i + 4 → long_at l i ≡ 0 → all_zero (drop m l) ≡ true → all_zero (drop i l) ≡ true
  unfolding long_at
  zero_long i m e z h = zero_word i (i + 2) (omega arith) (omega arith) (zero_word (i + 2) m (omega arith) (omega arith) h)

  -- an entry of zeros before zeros
  pub zero_entry_lem : (i m : ℕ) → m ≡ i + 10 → entry_at l i ≡ zero_entry → all_zero (drop m l) ≡ true → all_zero (drop i l) ≡ true
  unfolding entry_at
  zero_entry_lem i m e z h =
      one_before i (i + 1) (omega arith) (ap (λ (x : Entry). x.kind) z)
      (zero_word (i + 1) (i + 3) (omega arith) (ap (λ (x : Entry). x.day) z)
      (zero_long (i + 3) (i + 7) (omega arith) (ap (λ (x : Entry). x.value) z)
      (one_before (i + 7) (i + 8) (omega arith) (ap (λ (x : Entry). x.letter) z)
      (one_before (i + 8) (i + 9) (omega arith) (ap (λ (x : Entry). x.indicator) z)
      (one_before (i + 9) m (omega arith) (ap (λ (x : Entry). x.flag) z) h)))))
