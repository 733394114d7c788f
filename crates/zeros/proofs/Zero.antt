-- What a test for zeros is of joined lists and of their parts, and of numbers that bytes are joined in.
use Rattle.std.proofs.Common.{◌≡◌, refl, sym, ap, ◌∙◌, ℕ, zero, suc, ◌+◌, ◌-◌, ◌*◌, ◌^◌, ◌≤◌, ◌<◌, Bool, ◌&&◌, eqb, List, [], ◌∷◌, ◌++◌, length, get_or, take, drop, arith, fold, bit_or, lit<}
use Rattle.std.proofs.Math.Bool.{and-true, and_assoc}
use Rattle.std.proofs.Math.Seq.{take-add}
use Rattle.std.proofs.lemmas.Bool.Decides.{nat_tests}
use Rattle.std.proofs.Math.Nat.{zero-mul, suc-mul, le-mul_of_pos_right}
use Rattle.std.proofs.lemmas.List.{take_all, take-append-drop, length-take-le, length-drop, drop-drop}
use Rattle.std.proofs.lemmas.List.Folds.{list_all-append, list_all_more}
use Rattle.std.proofs.lemmas.Grind.{pow_more}
use Rattle.std.proofs.lemmas.List.Recursion.{same_from_clauses}
use Rattle.std.specs.Int.{byte_worth, sum_through}
use Rattle.std.specs.List.{list_all}
use Rattle.std.specs.Simd.{first_chunks}
use lib.Bits.{or_add_and, and_le_l, and_le_r}
use Rattle.register.specs.Area.{all_zero}

-- std's word for it
all_zero_list : (xs : List ℕ) → all_zero xs ≡ list_all (λ b. eqb b 0) xs
unfolding all_zero
all_zero_list xs = same_from_clauses all_zero (list_all (λ b. eqb b 0)) (λ b r. eqb b 0 && r) refl (λ _ _. refl) (λ _ _. refl) xs

zero_append : (xs ys : List ℕ) → all_zero (xs ++ ys) ≡ all_zero xs && all_zero ys
zero_append xs ys = rw (all_zero_list xs, all_zero_list ys, all_zero_list (xs ++ ys), list_all-append (λ b. eqb b 0) xs ys)

-- a list's first bytes and its others
pub zero_parts : (m : ℕ) (xs : List ℕ) → all_zero (take m xs) && all_zero (drop m xs) ≡ all_zero xs
zero_parts m xs = sym (zero_append (take m xs) (drop m xs)) ∙ ap all_zero (take-append-drop m xs)

zero_more : (m n : ℕ) (xs : List ℕ) → all_zero (take (m + n) xs) ≡ all_zero (take m xs) && all_zero (take n (drop m xs))
zero_more m n xs = ap all_zero (take-add m n xs) ∙ zero_append (take m xs) (take n (drop m xs))

-- the first k bytes and those from m on, where these meet
zero_overlap : (m k : ℕ) (xs : List ℕ) → m ≤ k → all_zero (take k xs) && all_zero (drop m xs) ≡ all_zero xs
zero_overlap m k xs h =
    let e : m + (k - m) ≡ k = omega arith in
    let upper = zero_parts (k - m) (drop m xs) in
    let lower = rw e at (zero_more m (k - m) xs) in
    let whole = zero_parts m xs in
    grind arith

-- ---- numbers
zero_or : (x y : ℕ) → eqb (bit_or x y) 0 ≡ eqb x 0 && eqb y 0
zero_or x y = grind (arith, nat_tests, or_add_and x y, and_le_l x y, and_le_r x y)

-- ---- a loop over n bytes at a time, which has passed those from one on up to i
module _ (from i : ℕ) (xs : List ℕ) where
  later : (j : ℕ) → from ≤ j → drop (j - from) (drop from xs) ≡ drop j xs
  later j h = let e : from + (j - from) ≡ j = omega arith in drop-drop (j - from) from xs ∙ ap (λ k. drop k xs) e

  pub zero_passed : (n bits next : ℕ) (others : Bool) → from ≤ i → eqb bits 0 ≡ all_zero (take (i - from) (drop from xs)) && others → eqb next 0 ≡ all_zero (take (i + n - i) (drop i xs)) → eqb (bit_or bits next) 0 ≡ all_zero (take (i + n - from) (drop from xs)) && others
  zero_passed n bits next others h p q =
      let e : i + n - from ≡ (i - from) + (i + n - i) = omega arith in
      let m : all_zero (take (i + n - from) (drop from xs)) ≡ all_zero (take (i - from) (drop from xs)) && all_zero (take (i + n - i) (drop i xs)) = rw (e, zero_more (i - from) (i + n - i) (drop from xs), later i h) in
      let o = zero_or bits next in
      grind arith

  -- with those from the last on it has passed all
  pub zero_all : (last bits : ℕ) → from ≤ last → last ≤ i → eqb bits 0 ≡ all_zero (take (i - from) (drop from xs)) && all_zero (drop last xs) → eqb bits 0 ≡ all_zero (drop from xs)
  zero_all last bits h l p = p ∙ rw (← later last h) (zero_overlap (last - from) (i - from) (drop from xs) (omega arith))

-- numbers joined one after another
pub zero_each : (n : ℕ) (xs : List ℕ) → eqb (fold (λ bits b. bit_or bits b) n xs) 0 ≡ eqb n 0 && all_zero xs
unfolding all_zero
zero_each n [] = grind arith
zero_each n (x ∷ xs) = zero_each (bit_or n x) xs ∙ rw (zero_or n x, and_assoc (eqb n 0) (eqb x 0) (all_zero xs))

-- numbers of n bytes each joined one after another
pub zero_chunks : (r : List ℕ → ℕ) (n : ℕ) → ((x : List ℕ) → length x ≡ n → eqb (r x) 0 ≡ all_zero x) → (k a : ℕ) (xs : List ℕ) → k * n ≤ length xs → eqb (fold (λ bits x. bit_or bits (r x)) a (first_chunks n k xs)) 0 ≡ eqb a 0 && all_zero (take (k * n) xs)
unfolding all_zero
zero_chunks r n each zero a xs h = rw zero-mul (sym (and-true (eqb a 0)))
zero_chunks r n each (suc k) a xs h =
    let room : n + k * n ≤ length xs = omega (arith, suc-mul k n) in
    let e : suc k * n ≡ n + k * n = omega (arith, suc-mul k n) in
    let first = each (take n xs) (length-take-le n xs (omega arith)) in
    let others = zero_chunks r n each k (bit_or a (r (take n xs))) (drop n xs) (simp length-drop (omega arith)) in
    others ∙ rw (zero_or a (r (take n xs)), first, e, zero_more n (k * n) xs, and_assoc)

-- a number low byte first
positive : (k : ℕ) → 0 < 256 ^ k
positive zero = lit< tt
positive (suc k) = omega (arith, pow_more 256 k, positive k)

worth : (b p : ℕ) → 0 < p → eqb (b * p) 0 ≡ eqb b 0
worth b p h = let none = zero-mul p in let some = le-mul_of_pos_right b h in grind (arith, nat_tests)

zero_add : (x y : ℕ) → eqb (x + y) 0 ≡ eqb x 0 && eqb y 0
zero_add x y = grind (arith, nat_tests)

zero_sum : (k : ℕ) (x : List ℕ) → k < length x → eqb (sum_through (λ i. byte_worth i (get_or x i 0)) k) 0 ≡ all_zero (take (k + 1) x)
zero_sum zero x h = rw (all_zero_list (take 1 x), list_all_more (λ b. eqb b 0) x 0 0 h)
zero_sum (suc k) x h =
    let e : k + 1 ≡ suc k = omega arith in
    let low = rw e at (zero_sum k x (omega arith)) in
    zero_add (sum_through (λ i. byte_worth i (get_or x i 0)) k) (get_or x (suc k) 0 * 256 ^ suc k)
    ∙ rw (low, worth (get_or x (suc k) 0) (256 ^ suc k) (positive (suc k)), all_zero_list (take (suc k) x), all_zero_list (take (suc k + 1) x), list_all_more (λ b. eqb b 0) x (suc k) 0 h)

pub zero_bytes : (k : ℕ) (x : List ℕ) → length x ≡ k + 1 → eqb (sum_through (λ i. byte_worth i (get_or x i 0)) k) 0 ≡ all_zero x
zero_bytes k x h = zero_sum k x (omega arith) ∙ ap all_zero (take_all (k + 1) x (omega arith))
