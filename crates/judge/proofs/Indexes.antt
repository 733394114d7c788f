-- The index of the withdrawn reads: one entry more, and what a look at a bucket rules out.
use mathlib.Core.Path.{◌≡◌, refl, sym, ap, ◌∙◌}
use mathlib.Core.Bool.{Bool, true, false, ◌&&◌, cond, or-true}
use mathlib.Core.List.{List, []}
use Prim.Native.Nat.{ℕ, zero, suc, ◌+◌, ◌-◌, ◌%◌, ◌≤◌, ◌<◌}
use native.Mathlib.Nat.{mod-lt}
use native.Mathlib.Omega.{arith}
use borrow.Author.Tests.{eqb-true, eqb-false, eq-eqb, ne_eqb}
use lib.Dec.{eqb}
use lib.ListN.{length, get_or, set, length-set}
use lib.Seq.{get_or-set_same, get_or-set_other}
use Rattle.terms.specs.declared.entry.Entry.{Entry}
use Rattle.terms.specs.Entry.{is_withdrawn, those}
use Rattle.register.specs.Entries.{entry_start, entry_at}
use Rattle.journal.specs.Journal.{entries_to, withdrawn}
use Rattle.journal.specs.Sound.{any, has_read}
use Rattle.judge.specs.Inner.Index.{bucket_of, bucket_for, crowded, buckets, put_in, Indexed, Clear}
use Rattle.journal.proofs.Bools.{false_is, both}
use Rattle.journal.proofs.Entries.{any_kept}

module _ (body : List ℕ) where
  abbrev entry : ℕ → Entry
  entry i = entry_at body (entry_start i)

  -- ---- none withdrawn
  unwithdrawn : (k : ℕ) → withdrawn (entries_to k body) ≡ [] → (i : ℕ) → i < k → is_withdrawn (entry i) ≡ false
  unfolding entries_to those
  unwithdrawn zero none i h = absurd (omega arith)
  unwithdrawn (suc k) none i h = cases (unwithdrawn k) (is_withdrawn (entry k)) refl (eqb i k) refl where
    cases : (withdrawn (entries_to k body) ≡ [] → (j : ℕ) → j < k → is_withdrawn (entry j) ≡ false) → (w : Bool) → is_withdrawn (entry k) ≡ w → (b : Bool) → eqb i k ≡ b → is_withdrawn (entry i) ≡ false
    cases rest true w b e =
        let some : suc (length (withdrawn (entries_to k body))) ≡ 0 = ap length (rw w at none) in
        absurd (omega arith)
    cases rest false w true e = rw (eqb-true i k e) w
    cases rest false w false e =
        let other : i ≡ k → ⊥ = eqb-false i k e in
        rest (rw w at none) i (omega arith)

  pub indexed_unwithdrawn : {index : List ℕ} (k : ℕ) → withdrawn (entries_to k body) ≡ [] → length index ≡ buckets → Indexed body k index
  indexed_unwithdrawn k none long = record { long = long; put = λ i h w c. false_is (sym (unwithdrawn k none i h) ∙ w) }

  -- ---- one entry more
  module _ (k : ℕ) (index : List ℕ) (old : Indexed body k index) where
    passed : is_withdrawn (entry k) ≡ false → Indexed body (k + 1) index
    passed stays = record { long = old.long; put = λ i h w c. cases i h w c (eqb i k) refl } where
      cases : (i : ℕ) → i < k + 1 → is_withdrawn (entry i) ≡ true → (get_or index (bucket_for (entry i)) 0 ≡ crowded → ⊥) → (b : Bool) → eqb i k ≡ b → get_or index (bucket_for (entry i)) 0 ≡ i + 1
      cases i h w c true e =
          let gone : is_withdrawn (entry k) ≡ true = rw (eqb-true i k e) at w in
          false_is (sym stays ∙ gone)
      cases i h w c false e =
          let other : i ≡ k → ⊥ = eqb-false i k e in
          old.put i (omega arith) w c

    abbrev at : ℕ
    at = bucket_for (entry k)

    abbrev more : List ℕ
    more = put_in index at k

    bucket_small : at < length index
    unfolding bucket_of
    bucket_small =
        let small : at < 256 = mod-lt ((entry k).day + (entry k).value % 256) (omega arith) in
        omega (arith, old.long)

    module _ where
      found : (there : Bool) → eqb (get_or index at 0) 0 ≡ there → get_or more at 0 ≡ cond there (k + 1) crowded
      unfolding put_in
      found there e = rw (e, get_or-set_same index at (cond there (k + 1) crowded) 0 bucket_small)

      -- one whose bucket is that of the new entry: the bucket was free and it is the new one, or the bucket is crowded
      in_bucket : (i : ℕ) → i < k + 1 → is_withdrawn (entry i) ≡ true → bucket_for (entry i) ≡ at → (get_or more at 0 ≡ crowded → ⊥) → get_or more at 0 ≡ i + 1
      in_bucket i h w same c = cases (eqb (get_or index at 0) 0) refl (eqb i k) refl where
        cases : (there : Bool) → eqb (get_or index at 0) 0 ≡ there → (b : Bool) → eqb i k ≡ b → get_or more at 0 ≡ i + 1
        cases true e true g = rw (found true e, eqb-true i k g)
        cases true e false g =
            let other : i ≡ k → ⊥ = eqb-false i k g in
            let none : get_or index at 0 ≡ 0 = eqb-true (get_or index at 0) 0 e in
            let free : get_or index (bucket_for (entry i)) 0 ≡ crowded → ⊥ = λ z. (let n : get_or index at 0 ≡ crowded = rw same at z in omega arith) in
            let old_at : get_or index at 0 ≡ i + 1 = rw same at (old.put i (omega arith) w free) in
            absurd (omega arith)
        cases false e b g = absurd (c (found false e))

      elsewhere : (i : ℕ) → (bucket_for (entry i) ≡ at → ⊥) → get_or more (bucket_for (entry i)) 0 ≡ get_or index (bucket_for (entry i)) 0
      unfolding put_in
      elsewhere i other = get_or-set_other index at (bucket_for (entry i)) (cond (eqb (get_or index at 0) 0) (k + 1) crowded) 0 other

      put_there : Indexed body (k + 1) more
      unfolding put_in
      put_there = record { long = simp length-set old.long; put = λ i h w c. cases i h w c (eqb (bucket_for (entry i)) at) refl } where
        cases : (i : ℕ) → i < k + 1 → is_withdrawn (entry i) ≡ true → (get_or more (bucket_for (entry i)) 0 ≡ crowded → ⊥) → (b : Bool) → eqb (bucket_for (entry i)) at ≡ b → get_or more (bucket_for (entry i)) 0 ≡ i + 1
        cases i h w c true e =
            let same : bucket_for (entry i) ≡ at = eqb-true (bucket_for (entry i)) at e in
            rw same (in_bucket i h w same (rw same at c))
        cases i h w c false e =
            let other : bucket_for (entry i) ≡ at → ⊥ = eqb-false (bucket_for (entry i)) at e in
            let before : i ≡ k → ⊥ = λ z. other (rw z) in
            elsewhere i other ∙ old.put i (omega arith) w (λ z. c (elsewhere i other ∙ z))

    -- e is the entry
    module _ {e : Entry} (read : e ≡ entry k) where
      pub indexed_pass : is_withdrawn e ≡ false → Indexed body (k + 1) index
      indexed_pass h = passed (rw read at h)

      pub indexed_put : Indexed body (k + 1) (put_in index (bucket_for e) k)
      indexed_put = rw read put_there

      -- a bucket that was free
      pub indexed_free : get_or index (bucket_for e) 0 ≡ 0 → Indexed body (k + 1) (set index (bucket_for e) (k + 1))
      unfolding put_in
      indexed_free free = rw (eq-eqb (get_or index (bucket_for e) 0) 0 free) at indexed_put

      -- one that was taken
      pub indexed_taken : (get_or index (bucket_for e) 0 ≡ 0 → ⊥) → Indexed body (k + 1) (set index (bucket_for e) crowded)
      unfolding put_in
      indexed_taken taken = rw (ne_eqb (get_or index (bucket_for e) 0) 0 taken) at indexed_put

  -- ---- what a bucket rules out
  module _ (day value : ℕ) {k : ℕ} {index : List ℕ} (is : Indexed body k index) (clear : Clear body (get_or index (bucket_of day value) 0) day value) where
    other_read : (i : ℕ) → i < k → is_withdrawn (entry i) ≡ true → has_read day value (entry i) ≡ false
    unfolding has_read
    other_read i h w = cases (has_read day value (entry i)) refl where
      cases : (b : Bool) → has_read day value (entry i) ≡ b → has_read day value (entry i) ≡ false
      cases true e =
          let parts = both (eqb (entry i).day day) (eqb (entry i).value value) e in
          let same : bucket_for (entry i) ≡ bucket_of day value = rw (eqb-true (entry i).day day parts.0, eqb-true (entry i).value value parts.1) in
          clear.other i (rw same at (is.put i h w (λ z. clear.sparse (rw same at z)))) w
      cases false e = e

    not_it : (i : ℕ) → i < k → (w : Bool) → is_withdrawn (entry i) ≡ w → w && has_read day value (entry i) ≡ false
    not_it i h true e = other_read i h e
    not_it i h false e = refl

    none_to : (j : ℕ) → j ≤ k → any (has_read day value) (withdrawn (entries_to j body)) ≡ false
    unfolding entries_to those any
    none_to zero h = refl
    none_to (suc j) h = rw (any_kept, not_it j (omega arith) (is_withdrawn (entry j)) refl) (none_to j (omega arith))

    pub none_indexed : any (has_read day value) (withdrawn (entries_to k body)) ≡ false
    none_indexed = none_to k (omega arith)

  -- a bucket that has none
  pub empty_clear : {there : ℕ} (day value : ℕ) → there ≡ 0 → Clear body there day value
  empty_clear day value e = record { sparse = λ z. absurd (omega arith); other = λ i z w. absurd (omega arith) }

  -- ---- a bucket with one entry
  pub some_to : (day value i : ℕ) → is_withdrawn (entry i) && has_read day value (entry i) ≡ true → (m : ℕ) → i < m → any (has_read day value) (withdrawn (entries_to m body)) ≡ true
  unfolding entries_to those
  some_to day value i it zero h = absurd (omega arith)
  some_to day value i it (suc m) h = cases (some_to day value i it m) (eqb i m) refl where
    cases : (i < m → any (has_read day value) (withdrawn (entries_to m body)) ≡ true) → (b : Bool) → eqb i m ≡ b → any (has_read day value) (withdrawn (entries_to (suc m) body)) ≡ true
    cases rest true e = rw (any_kept, rw (eqb-true i m e) at it)
    cases rest false e =
        let other : i ≡ m → ⊥ = eqb-false i m e in
        rw (any_kept, rest (omega arith), or-true)

  module _ (day value m : ℕ) {index : List ℕ} {there : ℕ} (is : Indexed body m index) (at_bucket : there ≡ get_or index (bucket_of day value) 0) (some : there ≡ 0 → ⊥) (few : there ≤ m) (small : m < crowded) where
    pub one_indexed : is_withdrawn (entry (there - 1)) && has_read day value (entry (there - 1)) ≡ any (has_read day value) (withdrawn (entries_to m body))
    one_indexed = cases (is_withdrawn (entry (there - 1)) && has_read day value (entry (there - 1))) refl where
      no : (x y : Bool) → x && y ≡ false → x ≡ true → y ≡ false
      no true y h e = h
      no false y h e = false_is e

      clear : is_withdrawn (entry (there - 1)) && has_read day value (entry (there - 1)) ≡ false → Clear body there day value
      clear h =
          record {
            sparse = λ z. absurd (omega arith);
            other = λ i z w. (let last : there - 1 ≡ i = omega arith in no (is_withdrawn (entry i)) (has_read day value (entry i)) (rw last at h) w);
          }

      cases : (b : Bool) → is_withdrawn (entry (there - 1)) && has_read day value (entry (there - 1)) ≡ b → is_withdrawn (entry (there - 1)) && has_read day value (entry (there - 1)) ≡ any (has_read day value) (withdrawn (entries_to m body))
      cases true e = e ∙ sym (some_to day value (there - 1) e m (omega arith))
      cases false e = e ∙ sym (none_indexed day value is (rw at_bucket at (clear e)))
