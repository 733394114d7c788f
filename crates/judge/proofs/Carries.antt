-- The first standing read of some entries.
use Rattle.std.specs.Prelude.{Some}
use mathlib.Core.Path.{◌≡◌}
use mathlib.Core.Bool.{Bool, true, false}
use mathlib.Core.List.{List, [], ◌∷◌}
use Prim.Native.Nat.{ℕ, zero, suc, ◌+◌, ◌-◌, ◌<◌}
use native.Mathlib.Omega.{arith}
use Rattle.terms.specs.declared.entry.Entry.{Entry}
use Rattle.terms.specs.Entry.{is_standing, keep_if, those}
use Rattle.register.specs.Entries.{entry_start, entry_at}
use Rattle.journal.specs.Journal.{entries_to, standing, oldest_of, day_of}
use Rattle.journal.proofs.Entries.{those_more}

-- ---- which read is the oldest does not change with the reads after it
oldest_kept_lem : (b : Bool) (e : Entry) (ss : List Entry) {oldest : Entry} → oldest_of ss ≡ Some oldest → oldest_of (keep_if b e ss) ≡ Some oldest
unfolding oldest_of
oldest_kept_lem false e ss h = h
oldest_kept_lem true e [] h = absurd (let z : ◌≡◌ {A = ℕ} 0 1 = cc in omega arith)
oldest_kept_lem true e (s ∷ ss) h = h

module _ (a : List ℕ) where
  oldest_after : (k n : ℕ) {oldest : Entry} → oldest_of (standing (entries_to k a)) ≡ Some oldest → oldest_of (standing (entries_to (n + k) a)) ≡ Some oldest
  unfolding entries_to those
  oldest_after k zero h =
      let e : zero + k ≡ k = omega arith in
      rw e h
  oldest_after k (suc n) h =
      let e : suc n + k ≡ suc (n + k) = omega arith in
      rw e (oldest_kept_lem (is_standing (entry_at a (entry_start (n + k)))) _ _ (oldest_after k n h))

  -- ---- the entry after k others, of which none stands
  module _ (k : ℕ) {e : Entry} {stands : Bool} (read : e ≡ entry_at a (entry_start k)) (is : stands ≡ is_standing e) (none : standing (entries_to k a) ≡ []) where
    pub none_yet : stands ≡ false → standing (entries_to (k + 1) a) ≡ []
    none_yet h = rw (those_more k a is_standing read is, h, none)

    pub oldest_is : (m : ℕ) → k < m → stands ≡ true → e.day ≡ day_of (oldest_of (standing (entries_to m a)))
    unfolding oldest_of day_of
    oldest_is m l h =
        let here : oldest_of (standing (entries_to (k + 1) a)) ≡ Some e = rw (those_more k a is_standing read is, h, none) in
        let all : m - (k + 1) + (k + 1) ≡ m = omega arith in
        rw (rw all at (oldest_after (k + 1) (m - (k + 1)) here))
