-- What the loops over a body's entries share: one entry more, and how many there are.
use mathlib.Core.Path.{◌≡◌, refl, ap}
use mathlib.Core.Bool.{Bool, true, false, ◌&&◌, ◌||◌, cond}
use mathlib.Core.List.{List, [], ◌∷◌}
use Prim.Native.Nat.{ℕ, zero, suc, ◌+◌, ◌-◌, ◌≤◌, ◌<◌}
use native.Mathlib.Numerals.{add-one}
use native.Mathlib.Omega.{arith}
use borrow.Author.Tests.{ne_eqb}
use lib.Dec.{eqb}
use lib.ListN.{length}
use Rattle.terms.specs.declared.entry.Entry.{Entry}
use Rattle.terms.specs.Entry.{keep_if, those}
use Rattle.register.specs.Bytes.{byte_at}
use Rattle.register.specs.Entries.{entry_start, entry_at}
use Rattle.register.specs.Head.{head_of, most_entries, body_of}
use Rattle.journal.specs.Journal.{entries_to, count_from, entry_count}
use Rattle.journal.specs.Sound.{any}

-- one entry more
module _ (k : ℕ) (a : List ℕ) where
  pub one_more : entries_to (k + 1) a ≡ entry_at a (entry_start k) ∷ entries_to k a
  unfolding entries_to
  one_more = ap (λ (n : ℕ). entries_to n a) (add-one k)

  -- of those that pass a test: the entry read is e, and b is what the test said of it
  pub those_more : (test : Entry → Bool) {e : Entry} {b : Bool} → e ≡ entry_at a (entry_start k) → b ≡ test e → those test (entries_to (k + 1) a) ≡ keep_if b e (those test (entries_to k a))
  unfolding those
  those_more test e b = rw (one_more, ← e, ← b)

pub any_kept : (p : Entry → Bool) (b : Bool) (e : Entry) (es : List Entry) → any p (keep_if b e es) ≡ (b && p e) || any p es
unfolding any
any_kept p true e es = refl
any_kept p false e es = refl

-- the last of some entries
pub last_entry : {m k : ℕ} (a : List ℕ) → m ≡ suc k → entries_to m a ≡ entry_at a (entry_start k) ∷ entries_to k a
unfolding entries_to
last_entry a e = ap (λ (n : ℕ). entries_to n a) e

-- how many entries there are
pub length_entries : (k : ℕ) (a : List ℕ) → length (entries_to k a) ≡ k
unfolding entries_to
length_entries zero a = refl
length_entries (suc k) a = ap suc (length_entries k a)

kept_at_most : (b : Bool) (e : Entry) (es : List Entry) → length (keep_if b e es) ≤ suc (length es)
kept_at_most true e es = omega arith
kept_at_most false e es = omega arith

pub those_at_most : (test : Entry → Bool) (es : List Entry) → length (those test es) ≤ length es
unfolding those
those_at_most test [] = omega arith
those_at_most test (e ∷ es) = omega (arith, those_at_most test es, kept_at_most (test e) e (those test es))

number_at_most : (b : Bool) {m n most : ℕ} → m ≤ most → n ≤ most → cond b m n ≤ most
number_at_most true h g = h
number_at_most false h g = g

count_from_at_most : (left k : ℕ) (a : List ℕ) → count_from left k a ≤ k + left
unfolding count_from
count_from_at_most zero k a = omega arith
count_from_at_most (suc left) k a =
    let stops : k ≤ k + suc left = omega arith in
    let goes_on : count_from left (suc k) a ≤ k + suc left = omega (arith, count_from_at_most left (suc k) a) in
    number_at_most (eqb (byte_at a (entry_start k)) 0) stops goes_on

pub count_from_most : (most : ℕ) (b : List ℕ) → count_from most 0 b ≤ most
count_from_most most b = omega (arith, count_from_at_most most 0 b)

pub count_at_most : (a : List ℕ) → entry_count a ≤ most_entries (head_of a)
unfolding entry_count
count_at_most a = count_from_most (most_entries (head_of a)) (body_of a)

-- ---- the count, from an entry on
module _ (most k : ℕ) (a : List ℕ) (h : k < most) where
  count_step : count_from (most - k) k a ≡ cond (eqb (byte_at a (entry_start k)) 0) k (count_from (most - (k + 1)) (k + 1) a)
  unfolding count_from
  count_step =
      let e : most - k ≡ suc (most - (k + 1)) = omega arith in
      rw (e, add-one)

  pub count_ends : byte_at a (entry_start k) ≡ 0 → count_from (most - k) k a ≡ k
  count_ends z = rw (count_step, z)

  pub count_on : (byte_at a (entry_start k) ≡ 0 → ⊥) → count_from (most - k) k a ≡ count_from (most - (k + 1)) (k + 1) a
  count_on n = rw (count_step, ne_eqb (byte_at a (entry_start k)) 0 n)

pub count_all : (most k : ℕ) (a : List ℕ) → most ≤ k → count_from (most - k) k a ≡ k
unfolding count_from
count_all most k a h =
    let e : most - k ≡ 0 = omega arith in
    rw e

number_at_least : (b : Bool) {m n least : ℕ} → least ≤ m → least ≤ n → least ≤ cond b m n
number_at_least true h g = h
number_at_least false h g = g

count_at_least : (left k : ℕ) (a : List ℕ) → k ≤ count_from left k a
unfolding count_from
count_at_least zero k a = omega arith
count_at_least (suc left) k a =
    let stops : k ≤ k = omega arith in
    let goes_on : k ≤ count_from left (suc k) a = omega (arith, count_at_least left (suc k) a) in
    number_at_least (eqb (byte_at a (entry_start k)) 0) stops goes_on

pub count_past : (most k : ℕ) (a : List ℕ) → count_from (most - k) k a ≡ count_from most 0 a → k ≤ count_from most 0 a
count_past most k a h = rw h at (count_at_least (most - k) k a)
