-- The shape of an area: how many entries its body has, and which of them are kept.
use mathlib.Core.Path.{◌≡◌, refl, sym, ap, ◌∙◌}
use mathlib.Core.Bool.{Bool, true, false, cond}
use mathlib.Core.List.{List}
use Prim.Native.Nat.{ℕ, zero, suc, ◌+◌, ◌≤◌, ◌<◌}
use native.Mathlib.Omega.{arith}
use native.Mathlib.Decide.{dec_lt}
use borrow.Author.Tests.{eq-eqb}
use lib.Dec.{eqb}
use lib.ListN.{length, take, drop}
use lib.Seq.{get_or-drop}
use Rattle.terms.specs.declared.entry.Entry.{Entry}
use Rattle.terms.specs.Entry.{keep_if, those}
use Rattle.terms.specs.Profile.{meter_kind}
use Rattle.terms.proofs.Profiles.{some_kind}
use Rattle.register.specs.Area.{all_zero}
use Rattle.register.specs.declared.head.Head.{Head}
use Rattle.register.specs.Bytes.{byte_at}
use Rattle.register.specs.Entries.{entry_start, entry_at}
use Rattle.register.specs.Head.{head_of, most_entries, body_of}
use Rattle.register.proofs.Back.{same_entry}
use Rattle.journal.specs.Journal.{entries_to, count_from, entry_count, journal_of, is_kept, kept, held_of, is_there}
use Rattle.journal.specs.Sound.{every, is_read, is_plate, is_head, is_held_right, are_sound, is_sound}
use Rattle.journal.proofs.Entries.{length_entries, those_at_most, count_at_most}
use Rattle.calls.proofs.Bools.{both, together, apart, by_test}
use Rattle.calls.proofs.Zeros.{zero_at}
use Rattle.calls.proofs.Lists.{has_kind, rest_kept, kept_and_held}
use Rattle.calls.proofs.Clauses.{Clauses, clauses_of}

-- ---- a body of k reads and then zeros has k entries
module _ (b : List ℕ) (k : ℕ) where
  -- every entry below k has a kind
  abbrev HaveKinds : Type 0
  HaveKinds = (i : ℕ) → i < k → eqb (byte_at b (entry_start i)) 0 ≡ false

  count_from_lem : HaveKinds → eqb (byte_at b (entry_start k)) 0 ≡ true → (left d i : ℕ) → i + d ≡ k → d ≤ left → count_from left i b ≡ k
  unfolding count_from
  count_from_lem there stop zero d i e l = omega arith
  count_from_lem there stop (suc left) zero i e l = let e' : i ≡ k = omega arith in rw (e', stop)
  count_from_lem there stop (suc left) (suc d) i e l =
      rw (there i (omega arith)) (count_from_lem there stop left d (suc i) (omega arith) (omega arith))

-- what holds at k and at every place below it holds below k + 1
at_or_below : (P : ℕ → Type 0) (k i : ℕ) → i < suc k → P k → (i < k → P i) → P i
at_or_below P k i l last below = pick (dec_lt i k)
  where
    pick : Dec (i < k) → P i
    pick (yes g) = below g
    pick (no g) = let e : i ≡ k = omega arith in rw e last

reads_below : (head : Head) (k : ℕ) (b : List ℕ) → every (is_read head) (entries_to k b) ≡ true → (i : ℕ) → i < k → is_read head (entry_at b (entry_start i)) ≡ true
unfolding entries_to every
reads_below head zero b h i l = absurd (omega arith)
reads_below head (suc k) b h i l =
    let r = both (is_read head (entry_at b (entry_start k))) (every (is_read head) (entries_to k b)) h in
    at_or_below (λ j. is_read head (entry_at b (entry_start j)) ≡ true) k i l r.0 (reads_below head k b r.1 i)

module _ (head : Head) (most k : ℕ) (b : List ℕ) (few : k ≤ most) (reads : every (is_read head) (entries_to k b) ≡ true) (end : all_zero (drop (entry_start k) b) ≡ true) where
  have_kinds : HaveKinds b k
  unfolding entry_at
  have_kinds i l = has_kind head (entry_at b (entry_start i)) (reads_below head k b reads i l)

  stops : eqb (byte_at b (entry_start k)) 0 ≡ true
  stops =
      let e : entry_start k + 0 ≡ entry_start k = omega arith in
      eq-eqb _ 0 (rw e at (sym (get_or-drop (entry_start k) b 0 0) ∙ zero_at (drop (entry_start k) b) 0 end))

  count_is : count_from most 0 b ≡ k
  count_is = count_from_lem b k have_kinds stops most k 0 (omega arith) few

-- ---- so has an area, and it is sound where its head and its reads are
module _ (a : List ℕ) (k : ℕ) (few : k ≤ most_entries (head_of a)) (end : all_zero (drop (entry_start k) (body_of a)) ≡ true) where
  pub entries_are : every (is_read (head_of a)) (entries_to k (body_of a)) ≡ true → (journal_of a).entries ≡ entries_to k (body_of a)
  unfolding journal_of entry_count
  entries_are reads = ap (λ (n : ℕ). entries_to n (body_of a)) (count_is (head_of a) (most_entries (head_of a)) k (body_of a) few reads end)

  pub sound_from : is_head a ≡ true → are_sound (head_of a) (entries_to k (body_of a)) ≡ true → is_sound a ≡ true
  unfolding is_sound journal_of entry_count
  sound_from head sound =
      let reads = (clauses_of (head_of a) (entries_to k (body_of a)) sound).reads in
      let n = count_is (head_of a) (most_entries (head_of a)) k (body_of a) few reads end in
      rw n (together head (together end sound))

-- ---- a sound area, part by part
pub record Sounds (a : List ℕ) : Type 0 where
  pub head : is_head a ≡ true
  pub end : all_zero (drop (entry_start (entry_count a)) (body_of a)) ≡ true
  pub sound : are_sound (head_of a) (journal_of a).entries ≡ true

pub sounds : (a : List ℕ) → is_sound a ≡ true → Sounds a
unfolding is_sound
sounds a h =
    let p = both (is_head a) _ h in
    let q = both (all_zero (drop (entry_start (entry_count a)) (body_of a))) (are_sound (head_of a) (journal_of a).entries) p.1 in
    record { head = p.0; end = q.0; sound = q.1 }

-- ---- the kept entries come first
kept_first : (b : List ℕ) (k : ℕ) (t : Bool) → let es : List Entry = keep_if t (entry_at b (entry_start k)) (entries_to k b) in es ≡ entries_to (length es) b
unfolding entries_to
kept_first b k true = rw (length_entries k b)
kept_first b k false = rw (length_entries k b)

kept_to : (head : Head) (m : ℕ) (b : List ℕ) → every (is_read head) (entries_to m b) ≡ true → is_held_right (entries_to m b) ≡ true → those is_kept (entries_to m b) ≡ entries_to (kept (entries_to m b)) b
unfolding entries_to those
kept_to head zero b r h = refl
kept_to head (suc m) b r h =
    let e = entry_at b (entry_start m) in
    rw (rest_kept head e (entries_to m b) r h) (kept_first b m (is_kept e))

module _ (a : List ℕ) (sound : is_sound a ≡ true) where
  abbrev es : List Entry
  es = (journal_of a).entries

  clauses : Clauses (head_of a) es
  clauses = clauses_of (head_of a) es (sounds a sound).sound

  pub kept_prefix : those is_kept es ≡ entries_to (kept es) (body_of a)
  unfolding journal_of
  kept_prefix = kept_to (head_of a) (entry_count a) (body_of a) clauses.reads clauses.held

  -- how many entries there are, with and without a held one
  pub count_kept : entry_count a ≡ cond (is_there (held_of es)) (suc (kept es)) (kept es)
  unfolding journal_of
  count_kept = sym (length_entries (entry_count a) (body_of a)) ∙ kept_and_held (head_of a) es clauses.reads clauses.held

  pub kept_at_most : kept es ≤ most_entries (head_of a)
  unfolding journal_of
  kept_at_most = omega (arith, those_at_most is_kept es, length_entries (entry_count a) (body_of a), count_at_most a)

  pub count_at_most_kept : entry_count a ≤ suc (kept es)
  count_at_most_kept = by_test (is_there (held_of es)) (λ t. omega (arith, rw t at count_kept)) (λ t. omega (arith, rw t at count_kept))

-- ---- bodies that agree up to n have the same entries there
module _ (a b : List ℕ) (n : ℕ) (h : take n a ≡ take n b) where
  pub same_entries : (k : ℕ) → entry_start k ≤ n → entries_to k a ≡ entries_to k b
  unfolding entries_to
  same_entries zero l = refl
  same_entries (suc k) l = cc (same_entry a b n h (entry_start k) (omega arith), same_entries k (omega arith))

-- ---- a good head: a plate after the kind of its profile
pub good_head : (a : List ℕ) (head : Head) → head_of a ≡ head → byte_at a 0 ≡ meter_kind head.profile → is_plate head ≡ true → is_head a ≡ true
unfolding is_head
good_head a head same kind plate = rw same (together (eq-eqb _ _ kind) plate)

module _ (a : List ℕ) (good : is_head a ≡ true) where
  parts : (eqb (byte_at a 0) (meter_kind (head_of a).profile) ≡ true) × (is_plate (head_of a) ≡ true)
  unfolding is_head
  parts = both _ (is_plate (head_of a)) good

  pub plate_of_lem : is_plate (head_of a) ≡ true
  plate_of_lem = parts.1

  -- it is not all zero
  pub head_there : byte_at a 0 ≡ 0 → ⊥
  head_there none = apart (rw none at parts.0) (some_kind (head_of a).profile)

-- an area with the same first byte and the same head has a good one where that is
pub still_head : (a b : List ℕ) → head_of b ≡ head_of a → byte_at b 0 ≡ byte_at a 0 → is_head a ≡ true → is_head b ≡ true
unfolding is_head
still_head a b head kind h = rw (head, kind) h
