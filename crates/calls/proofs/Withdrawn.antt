-- A withdrawal takes the last standing read away, keeps the others, and leaves no held one.
use Rattle.std.specs.Prelude.{None}
use mathlib.Core.Path.{◌≡◌, refl, sym, ap, ◌∙◌}
use mathlib.Core.Bool.{true, false, ◌||◌}
use mathlib.Core.List.{List, [], ◌∷◌}
use Prim.Native.Nat.{ℕ, zero, suc, ◌+◌, ◌≤◌, ◌<◌}
use native.Mathlib.Omega.{arith}
use borrow.Author.Tests.{not-false}
use lib.ListN.{length, set, take, drop, length-set}
use lib.Seq.{take-set-le, drop-set-lt}
use Rattle.terms.specs.declared.entry.Entry.{Entry}
use Rattle.terms.specs.Number.{accepted}
use Rattle.terms.specs.Rule.{first_broken}
use Rattle.terms.specs.Entry.{kind_withdrawn, is_standing, those, slot_at}
use Rattle.register.specs.Area.{area_bytes, all_zero}
use Rattle.register.specs.Bytes.{byte_at}
use Rattle.register.specs.Entries.{entry_bytes, entry_start, entry_at, put_entry, zero_entry}
use Rattle.register.specs.Head.{head_of, most_entries, body_of, entry_offset}
use Rattle.register.proofs.Back.{entry_length, entry_below, entry_above, entry_same, past_entry, other_kind}
use Rattle.register.proofs.Body.{body_room, entry_head, entry_head_kind, entry_body, kind_head, kind_head_kind, kind_body, same_offset}
use Rattle.journal.specs.Journal.{Journal, entries_to, entry_count, journal_of, is_kept, standing, withdrawn, kept, held_of, is_there, newest_at, oldest_of}
use Rattle.journal.specs.Numbers.{area_rules}
use Rattle.journal.specs.Sound.{any, has_read, carries_right, are_sound, is_sound}
use Rattle.journal.proofs.Entries.{length_entries, count_at_most}
use Rattle.calls.specs.Checks.{is_not_last, is_oldest_kept, withdraw_rules, withdraw_checks}
use Rattle.calls.specs.Calls.{withdrawn_bytes, withdrawn_area}
use Rattle.calls.proofs.Bools.{by_test, apart, right_or}
use Rattle.calls.proofs.Zeros.{zero_entry_lem}
use Rattle.calls.proofs.Lists.{none_held, none_held_empty, standing_kept, withdrawn_kept}
use Rattle.calls.proofs.Carried.{carries_less}
use Rattle.calls.proofs.Clauses.{clauses_of, kept_sound}
use Rattle.calls.proofs.Shape.{entries_are, sound_from, sounds, kept_prefix, kept_at_most, count_kept, same_entries, still_head}
use Rattle.calls.proofs.Newest.{withdrawn_of, newest_withdrawn, newest_below, newest_standing, newest_withdrawn_lem, newest_none_held, newest_sound, newest_of_kept}
use Rattle.calls.proofs.Broken.{unbroken}

-- ---- the kind byte of the newest standing entry set to withdrawn, in a body
abbrev marked : ℕ → List ℕ → List ℕ
marked i b = set b (entry_start i) kind_withdrawn

marked_own : (b : List ℕ) (i : ℕ) → entry_start i < length b → entries_to (suc i) (marked i b) ≡ withdrawn_of (entry_at b (entry_start i)) ∷ entries_to i b
unfolding entries_to
marked_own b i room =
    cc (
      other_kind b (entry_start i) kind_withdrawn room,
      same_entries (marked i b) b (entry_start i) (take-set-le (entry_start i) b (entry_start i) kind_withdrawn (omega arith)) i (omega arith),
    )

marked_entries : (b : List ℕ) (r : Entry) (ss : List Entry) (i m : ℕ) → entry_start m ≤ length b → standing (entries_to m b) ≡ r ∷ ss → i ≡ newest_at (entries_to m b) → entries_to m (marked i b) ≡ newest_withdrawn (entries_to m b)
unfolding entries_to those newest_at newest_withdrawn
marked_entries b r ss i zero room st e = refl
marked_entries b r ss i (suc m) room st e =
    let x = entry_at b (entry_start m) in
    by_test (is_standing x)
    (λ t. let e' : i ≡ m = rw t at e ∙ length_entries m b in rw (t, e') (marked_own b m (omega arith)))
    (λ t.
    let e' : i ≡ newest_at (entries_to m b) = rw t at e in
    let st' : standing (entries_to m b) ≡ r ∷ ss = rw t at st in
    let l : i < m = omega (arith, newest_below r ss (entries_to m b) st', length_entries m b) in
    let above = drop-set-lt (entry_start m) b (entry_start i) kind_withdrawn (omega arith) in
    rw t (cc (past_entry (marked i b) b (entry_start m) above (entry_start m) (omega arith), marked_entries b r ss i m (omega arith) st' e')))

marked_list : (b : List ℕ) (r : Entry) (ss : List Entry) (i k : ℕ) (es : List Entry) → es ≡ entries_to k b → entry_start k ≤ length b → standing es ≡ r ∷ ss → i ≡ newest_at es → entries_to k (marked i b) ≡ newest_withdrawn es
marked_list b r ss i k es p room st e = rw p (marked_entries b r ss i k room (rw p at st) (rw p at e))

-- ---- the area after
pub record Withdrawn (day value : ℕ) (a after : List ℕ) : Type 0 where
  pub size : length after ≡ area_bytes
  pub sound : is_sound after ≡ true
  pub journal : journal_of after ≡ record {
    head = (journal_of a).head;
    entries = newest_withdrawn (those is_kept (journal_of a).entries);
  }
  -- the read withdrawn
  pub read : Entry
  pub named : has_read day value read ≡ true
  pub stood : standing (journal_of a).entries ≡ read ∷ standing (journal_of after).entries
  pub withdrawn_now : (d v : ℕ) → any (has_read d v) (withdrawn (journal_of after).entries) ≡ has_read d v read || any (has_read d v) (withdrawn (journal_of a).entries)

module _ (day value : ℕ) (a : List ℕ) (size : length a ≡ area_bytes) (sound : is_sound a ≡ true) (r : Entry) (ss : List Entry) (st : standing (journal_of a).entries ≡ r ∷ ss) (named : has_read day value r ≡ true) (carry : carries_right (head_of a) ss ≡ true) where
  abbrev es : List Entry
  es = (journal_of a).entries

  abbrev ks : List Entry
  ks = those is_kept es

  abbrev i : ℕ
  i = newest_at es

  abbrev body : List ℕ
  body = body_of a

  kept_stand : standing ks ≡ r ∷ ss
  kept_stand = standing_kept es ∙ st

  newest : i ≡ newest_at ks
  newest = let c = clauses_of _ _ (sounds a sound).sound in sym (newest_of_kept _ es c.reads c.held)

  i_below : i < kept es
  i_below = omega (arith, newest, newest_below r ss ks kept_stand)

  marked_kept : entries_to (kept es) (marked i body) ≡ newest_withdrawn ks
  marked_kept = marked_list body r ss i (kept es) ks (kept_prefix a sound) (omega (arith, kept_at_most a sound, body_room a size)) kept_stand newest

  marked_above : (n : ℕ) → entry_start (kept es) ≤ n → drop n (marked i body) ≡ drop n body
  marked_above n l = drop-set-lt n body (entry_start i) kind_withdrawn (omega (arith, i_below))

  still_sound : are_sound (head_of a) (newest_withdrawn ks) ≡ true
  still_sound = newest_sound _ r ss ks kept_stand (none_held es) carry (kept_sound _ es (sounds a sound).sound)

  -- any area with the same head whose body agrees with the marked one up to the kept entries, and is zero from there on
  module _ (after : List ℕ) (size' : length after ≡ area_bytes) (same_head : head_of after ≡ head_of a) (same_kind : byte_at after 0 ≡ byte_at a 0) (below : take (entry_start (kept es)) (body_of after) ≡ take (entry_start (kept es)) (marked i body)) (end : all_zero (drop (entry_start (kept es)) (body_of after)) ≡ true) where
    read_back : entries_to (kept es) (body_of after) ≡ newest_withdrawn ks
    read_back = same_entries (body_of after) (marked i body) (entry_start (kept es)) below (kept es) (omega arith) ∙ marked_kept

    few : kept es ≤ most_entries (head_of after)
    few = rw same_head (kept_at_most a sound)

    entries : (journal_of after).entries ≡ newest_withdrawn ks
    entries = entries_are after (kept es) few end (rw (same_head, read_back) (clauses_of _ _ still_sound).reads) ∙ read_back

    leaves : Withdrawn day value a after
    unfolding journal_of has_read
    leaves =
        record {
          size = size';
          sound = sound_from after (kept es) few end (still_head a after same_head same_kind (sounds a sound).head) (rw (same_head, read_back) still_sound);
          journal = λ t. record { head = same_head t; entries = entries t };
          read = r;
          named = named;
          stood = st ∙ ap (λ (l : List Entry). r ∷ l) (sym (newest_standing r ss ks kept_stand) ∙ ap standing (sym entries));
          withdrawn_now = λ d v. rw (entries, newest_withdrawn_lem (has_read d v) r ss ks kept_stand, withdrawn_kept es);
        }

  -- the area that a withdrawal leaves is one
  abbrev changed : List ℕ
  changed = set a (entry_offset a i) kind_withdrawn

  zeroed : is_there (held_of es) ≡ true → Withdrawn day value a (put_entry changed (entry_offset a (kept es)) zero_entry)
  zeroed t =
      let n : entry_count a ≡ suc (kept es) = rw t at (count_kept a sound) in
      let here = entry_start (kept es) in
      let next = entry_start (suc (kept es)) in
      let b : List ℕ = marked i body in
      let after = put_entry changed (entry_offset changed (kept es)) zero_entry in
      let body' : body_of after ≡ put_entry b here zero_entry = rw (entry_body changed (kept es) zero_entry refl, kind_body a i kind_withdrawn refl) in
      let room : here + entry_bytes ≤ length b = rw (length-set body (entry_start i) kind_withdrawn) (omega (arith, count_at_most a, body_room a size)) in
      let rest : all_zero (drop next (put_entry b here zero_entry)) ≡ true =
      rw (entry_above b here zero_entry next (omega arith), marked_above next (omega arith), ← n) (sounds a sound).end
      in
      rw (← same_offset a changed (kept es) (kind_head a i kind_withdrawn refl))
      (leaves after
      (entry_length changed (entry_offset changed (kept es)) zero_entry ∙ length-set a (entry_offset a i) kind_withdrawn ∙ size)
      (entry_head changed (kept es) zero_entry refl ∙ kind_head a i kind_withdrawn refl)
      (entry_head_kind changed (kept es) zero_entry refl ∙ kind_head_kind a i kind_withdrawn refl)
      (rw body' (entry_below b here zero_entry here (omega arith)))
      (rw body' (zero_entry_lem (put_entry b here zero_entry) here next (omega arith) (entry_same b here zero_entry room) rest)))

  unheld : is_there (held_of es) ≡ false → Withdrawn day value a changed
  unheld t =
      let n : entry_count a ≡ kept es = rw t at (count_kept a sound) in
      leaves changed
      (length-set a (entry_offset a i) kind_withdrawn ∙ size)
      (kind_head a i kind_withdrawn refl)
      (kind_head_kind a i kind_withdrawn refl)
      (rw (kind_body a i kind_withdrawn refl))
      (rw (kind_body a i kind_withdrawn refl, marked_above (entry_start (kept es)) (omega arith), ← n) (sounds a sound).end)

  withdrawn_in : Withdrawn day value a (withdrawn_area es a)
  unfolding withdrawn_bytes
  withdrawn_in = by_test (is_there (held_of es)) (λ t. rw t (zeroed t)) (λ t. rw t (unheld t))

-- ---- an accepted withdrawal
pub record CanWithdraw (day value : ℕ) (a : List ℕ) : Type 0 where
  pub sound : is_sound a ≡ true
  pub last : is_not_last day value (slot_at (standing (journal_of a).entries) 0) ≡ false
  pub other : is_oldest_kept day value (head_of a) (oldest_of (standing (journal_of a).entries)) ≡ false

pub can_withdraw : (day value : ℕ) (a : List ℕ) → first_broken (withdraw_checks day value a) ≡ accepted → CanWithdraw day value a
unfolding withdraw_checks area_rules withdraw_rules journal_of
can_withdraw day value a h =
    let u = unbroken accepted (withdraw_checks day value a) refl h in
    record { sound = not-false _ u.1.0; last = u.1.1.1.0; other = u.1.1.1.1.0 }

last_read : (day value : ℕ) (a : List ℕ) → length a ≡ area_bytes → is_sound a ≡ true → (ss : List Entry) → standing (journal_of a).entries ≡ ss → is_not_last day value (slot_at ss 0) ≡ false → is_oldest_kept day value (head_of a) (oldest_of ss) ≡ false → Withdrawn day value a (withdrawn_area (journal_of a).entries a)
unfolding is_not_last slot_at
last_read day value a size sound [] st h o = absurd (apart refl h)
last_read day value a size sound (r ∷ ss) st h o =
    let named = not-false _ h in
    let carry : carries_right (head_of a) (r ∷ ss) ≡ true = rw st at (clauses_of _ _ (sounds a sound).sound).carry in
    withdrawn_in day value a size sound r ss st named (carries_less (head_of a) day value r ss named o carry)

pub withdrawal : (day value : ℕ) (a : List ℕ) → length a ≡ area_bytes → first_broken (withdraw_checks day value a) ≡ accepted → Withdrawn day value a (withdrawn_area (journal_of a).entries a)
withdrawal day value a size h =
    let c = can_withdraw day value a h in
    last_read day value a size c.sound (standing (journal_of a).entries) refl c.last c.other

-- ---- what follows for the names of withdrawn reads
module _ (day value : ℕ) (a after : List ℕ) (w : Withdrawn day value a after) where
  pub now_withdrawn : any (has_read day value) (withdrawn (journal_of after).entries) ≡ true
  now_withdrawn = rw (w.withdrawn_now day value, w.named)

  pub still_withdrawn : (d v : ℕ) → any (has_read d v) (withdrawn (journal_of a).entries) ≡ true → any (has_read d v) (withdrawn (journal_of after).entries) ≡ true
  still_withdrawn d v h = w.withdrawn_now d v ∙ right_or (has_read d v w.read) h

  -- and none is held then
  pub none_held_after : held_of (journal_of after).entries ≡ None
  none_held_after =
      ap (λ (j : Journal). held_of j.entries) w.journal
      ∙ none_held_empty _ (newest_none_held _ (none_held (journal_of a).entries))
