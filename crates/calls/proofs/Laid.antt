-- The area that holds a journal is read back as that journal, and is sound where the journal is.
use mathlib.Core.Path.{◌≡◌, refl, sym, ap, ◌∙◌}
use mathlib.Core.Bool.{true, false}
use mathlib.Core.List.{List, [], ◌∷◌}
use Prim.Native.Nat.{ℕ, suc, ◌+◌, ◌≤◌}
use native.Mathlib.Omega.{arith}
use lib.Dec.{eqb}
use lib.ListN.{length, drop, replicate, length-replicate}
use Rattle.terms.specs.declared.entry.Entry.{Entry}
use Rattle.terms.specs.Entry.{kind_carry}
use Rattle.terms.specs.Profile.{meter_kind}
use Rattle.register.specs.declared.head.Head.{Head}
use Rattle.register.specs.Area.{area_bytes, all_zero}
use Rattle.register.specs.Bytes.{byte_at}
use Rattle.register.specs.Entries.{entry_bytes, entry_start, put_entry}
use Rattle.register.specs.Head.{meter_bytes, is_carry_at, no_carry, head_of, head_bytes, put_head, most_entries, body_of, offset_after, entry_offset}
use Rattle.register.proofs.Back.{entry_length, entry_below, entry_above, entry_same}
use Rattle.register.proofs.Heads.{Bare, head_length, head_kind, head_same}
use Rattle.register.proofs.Body.{NoCarryKind, area_fits, body_room, head_body, entry_head, entry_head_kind, entry_body}
use Rattle.journal.specs.Journal.{Journal, entries_to, journal_of, put_entries, area_for}
use Rattle.journal.specs.Sound.{every, is_read, is_plate, are_sound, is_sound}
use Rattle.calls.proofs.Bools.{both}
use Rattle.calls.proofs.Zeros.{zero_at, zero_drop, zero_past, zero_replicate}
use Rattle.calls.proofs.Lists.{no_carry_kind}
use Rattle.calls.proofs.Clauses.{clauses_of}
use Rattle.calls.proofs.Shape.{entries_are, sound_from, same_entries, good_head}

offset_of : (a : List ℕ) (k : ℕ) → entry_offset a k ≡ offset_after (head_of a) k
unfolding entry_offset
offset_of a k = refl

-- an area with a head and some entries, and then zeros
pub record Holds (head : Head) (es : List Entry) (a : List ℕ) : Type 0 where
  pub size : length a ≡ area_bytes
  pub kind : byte_at a 0 ≡ meter_kind head.profile
  pub head_is : head_of a ≡ head
  pub entries_are : entries_to (length es) (body_of a) ≡ es
  pub end : all_zero (drop (entry_start (length es)) (body_of a)) ≡ true

module _ (head : Head) (bare : head.carried ≡ false → head.carry ≡ no_carry) where
  abbrev zeros : List ℕ
  zeros = replicate area_bytes 0

  zeros_size : length zeros ≡ area_bytes
  zeros_size = length-replicate {A = ℕ} area_bytes 0

  fits : head_bytes head ≤ length zeros
  fits = area_fits zeros head zeros_size

  clear : Bare zeros head
  unfolding is_carry_at
  clear h = (bare h, ap (λ (k : ℕ). eqb k kind_carry) (zero_at zeros meter_bytes (zero_replicate area_bytes)))

  -- the head alone
  head_holds : Holds head [] (put_head zeros head)
  unfolding entries_to
  head_holds =
      record {
        size = head_length zeros head ∙ zeros_size;
        kind = head_kind zeros head fits;
        head_is = head_same zeros head fits clear;
        entries_are = refl;
        end = rw (head_body zeros head fits clear) (zero_drop (entry_start 0) _ (zero_drop (head_bytes head) zeros (zero_replicate area_bytes)));
      }

  -- one entry more
  module _ (e : Entry) (es : List Entry) (a : List ℕ) (h : Holds head es a) (room : suc (length es) ≤ most_entries head) (other : NoCarryKind e.kind) where
    abbrev k : ℕ
    k = length es

    abbrev body : List ℕ
    body = body_of a

    abbrev after : List ℕ
    after = put_entry a (entry_offset a k) e

    body_after : body_of after ≡ put_entry body (entry_start k) e
    body_after = entry_body a k e other

    few : suc k ≤ most_entries (head_of a)
    few = rw h.head_is room

    read_back : entries_to (suc k) (body_of after) ≡ e ∷ es
    unfolding entries_to
    read_back =
        let here : entry_start k + entry_bytes ≤ length body = omega (arith, few, body_room a h.size) in
        rw body_after
        (cc (
          entry_same body (entry_start k) e here,
          same_entries (put_entry body (entry_start k) e) body (entry_start k) (entry_below body (entry_start k) e (entry_start k) (omega arith)) k (omega arith),
          h.entries_are,
        ))

    more_holds : Holds head (e ∷ es) after
    more_holds =
        record {
          size = entry_length a (entry_offset a k) e ∙ h.size;
          kind = entry_head_kind a k e other ∙ h.kind;
          head_is = entry_head a k e other ∙ h.head_is;
          entries_are = read_back;
          end = rw (body_after, entry_above body (entry_start k) e (entry_start (suc k)) (omega arith)) (zero_past body (entry_start k) (entry_start (suc k)) (omega arith) h.end);
        }

  -- all of them
  put_holds : (es : List Entry) → length es ≤ most_entries head → every (is_read head) es ≡ true → Holds head es (put_entries (put_head zeros head) head es)
  unfolding put_entries every
  put_holds [] few reads = head_holds
  put_holds (e ∷ es) few reads =
      let r = both (is_read head e) (every (is_read head) es) reads in
      let a : List ℕ = put_entries (put_head zeros head) head es in
      let h = put_holds es (omega arith) r.1 in
      let at : offset_after head (length es) ≡ entry_offset a (length es) = offset_in a (length es) h.head_is in
      rw at (more_holds e es a h few (no_carry_kind head e r.0))
    where
      offset_in : (a : List ℕ) (k : ℕ) → head_of a ≡ head → offset_after head k ≡ entry_offset a k
      offset_in a k is = sym (offset_of a k ∙ ap (λ (x : Head). offset_after x k) is)

-- ---- the area that holds a journal
module _ (j : Journal) (bare : j.head.carried ≡ false → j.head.carry ≡ no_carry) (few : length j.entries ≤ most_entries j.head) (plate : is_plate j.head ≡ true) (sound : are_sound j.head j.entries ≡ true) where
  reads : every (is_read j.head) j.entries ≡ true
  reads = (clauses_of j.head j.entries sound).reads

  holds : Holds j.head j.entries (area_for j)
  unfolding area_for
  holds = put_holds j.head bare j.entries few reads

  few_here : length j.entries ≤ most_entries (head_of (area_for j))
  few_here = rw holds.head_is few

  pub laid_size : length (area_for j) ≡ area_bytes
  laid_size = holds.size

  pub laid_journal : journal_of (area_for j) ≡ j
  unfolding journal_of
  laid_journal =
      let entries = entries_are (area_for j) (length j.entries) few_here holds.end (rw (holds.head_is, holds.entries_are) reads) ∙ holds.entries_are in
      let head = holds.head_is in
      λ t. record { head = head t; entries = entries t }

  pub laid_sound : is_sound (area_for j) ≡ true
  laid_sound =
      sound_from (area_for j) (length j.entries) few_here holds.end
      (good_head (area_for j) j.head holds.head_is holds.kind plate)
      (rw (holds.head_is, holds.entries_are) sound)
