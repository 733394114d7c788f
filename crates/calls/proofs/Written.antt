-- A read written after the kept entries is the newest, over a held one; the kept entries stay.
use Rattle.std.specs.Prelude.{None}
use mathlib.Core.Path.{◌≡◌, ap, ◌∙◌}
use mathlib.Core.Bool.{true}
use mathlib.Core.List.{List, ◌∷◌}
use Prim.Native.Nat.{ℕ, suc, ◌+◌, ◌≤◌, ◌<◌}
use native.Mathlib.Omega.{arith}
use lib.ListN.{length, drop}
use Rattle.terms.specs.declared.entry.Entry.{Entry}
use Rattle.terms.specs.Entry.{is_standing, is_withdrawn, is_held, keep_if, those}
use Rattle.register.specs.Area.{area_bytes, all_zero}
use Rattle.register.specs.Entries.{entry_bytes, entry_start, put_entry}
use Rattle.register.specs.Head.{head_of, most_entries, body_of, entry_offset}
use Rattle.register.proofs.Back.{entry_length, entry_below, entry_above, entry_same}
use Rattle.register.proofs.Body.{NoCarryKind, body_room, entry_head, entry_head_kind, entry_body}
use Rattle.journal.specs.Journal.{Journal, entries_to, entry_count, journal_of, is_kept, standing, withdrawn, kept, slot_if, held_of}
use Rattle.journal.specs.Sound.{every, is_read, are_sound, is_sound}
use Rattle.calls.proofs.Bools.{both, together}
use Rattle.calls.proofs.Zeros.{zero_past}
use Rattle.calls.proofs.Lists.{every_those, standing_kept, withdrawn_kept}
use Rattle.calls.proofs.Clauses.{clauses_of}
use Rattle.calls.proofs.Shape.{entries_are, sound_from, sounds, kept_prefix, count_at_most_kept, same_entries, still_head}

-- the journal with a read e after the kept entries
abbrev pub with_read : Entry → Journal → Journal
with_read e j = record { head = j.head; entries = e ∷ those is_kept j.entries }

-- what an area holds after a read e was written into area a
pub record Written (e : Entry) (a after : List ℕ) : Type 0 where
  pub size : length after ≡ area_bytes
  pub sound : is_sound after ≡ true
  pub journal : journal_of after ≡ with_read e (journal_of a)

module _ (e : Entry) (a : List ℕ) (size : length a ≡ area_bytes) (sound : is_sound a ≡ true) (room : kept (journal_of a).entries < most_entries (head_of a)) (other : NoCarryKind e.kind) where
  abbrev k : ℕ
  k = kept (journal_of a).entries

  abbrev body : List ℕ
  body = body_of a

  abbrev after : List ℕ
  after = put_entry a (entry_offset a k) e

  same_head : head_of after ≡ head_of a
  same_head = entry_head a k e other

  body_after : body_of after ≡ put_entry body (entry_start k) e
  body_after = entry_body a k e other

  few : suc k ≤ most_entries (head_of after)
  few = rw same_head (omega arith)

  end : all_zero (drop (entry_start (suc k)) (body_of after)) ≡ true
  end =
      rw (body_after, entry_above body (entry_start k) e (entry_start (suc k)) (omega arith))
      (zero_past body (entry_start (entry_count a)) (entry_start (suc k)) (omega (arith, count_at_most_kept a sound)) (sounds a sound).end)

  read_back : entries_to (suc k) (body_of after) ≡ e ∷ those is_kept (journal_of a).entries
  unfolding entries_to
  read_back =
      let fits : entry_start k + entry_bytes ≤ length body = omega (arith, body_room a size) in
      rw body_after
      (cc (
        entry_same body (entry_start k) e fits,
        same_entries (put_entry body (entry_start k) e) body (entry_start k) (entry_below body (entry_start k) e (entry_start k) (omega arith)) k (omega arith),
        kept_prefix a sound,
      ))

  kept_reads : every (is_read (head_of a)) (those is_kept (journal_of a).entries) ≡ true
  kept_reads = every_those _ is_kept _ (clauses_of _ _ (sounds a sound).sound).reads

  -- any read is read back
  pub written_journal : is_read (head_of a) e ≡ true → journal_of after ≡ with_read e (journal_of a)
  unfolding every journal_of
  written_journal read =
      let entries = entries_are after (suc k) few end (rw (same_head, read_back) (together read kept_reads)) ∙ read_back in
      λ t. record { head = same_head t; entries = entries t }

  -- and leaves a sound area where it may follow the kept ones
  pub written_sound : are_sound (head_of a) (e ∷ those is_kept (journal_of a).entries) ≡ true → Written e a after
  unfolding every
  written_sound h = record {
    size = entry_length a (entry_offset a k) e ∙ size;
    sound = sound_from after (suc k) few end (still_head a after same_head (entry_head_kind a k e other) (sounds a sound).head) (rw (same_head, read_back) h);
    journal = written_journal (both (is_read (head_of a) e) _ (clauses_of _ _ h).reads).0;
  }

-- ---- what stands, is withdrawn and is held then
module _ (e : Entry) (a after : List ℕ) (w : Written e a after) where
  entries : (journal_of after).entries ≡ e ∷ those is_kept (journal_of a).entries
  entries = ap (λ (j : Journal). j.entries) w.journal

  pub standing_after : standing (journal_of after).entries ≡ keep_if (is_standing e) e (standing (journal_of a).entries)
  unfolding those
  standing_after = rw (entries, standing_kept (journal_of a).entries)

  pub withdrawn_after : withdrawn (journal_of after).entries ≡ keep_if (is_withdrawn e) e (withdrawn (journal_of a).entries)
  unfolding those
  withdrawn_after = rw (entries, withdrawn_kept (journal_of a).entries)

  pub held_after : held_of (journal_of after).entries ≡ slot_if (is_held e) e None
  unfolding held_of
  held_after = rw entries
