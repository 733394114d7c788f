-- The head and the body of an area after a write into its body.
use mathlib.Core.Path.{◌≡◌, refl, sym, ap, ◌∙◌}
use mathlib.Core.Bool.{Bool, true, false, cond}
use mathlib.Core.List.{List}
use Prim.Native.Nat.{ℕ, ◌+◌, ◌*◌, ◌-◌, ◌≤◌, ◌<◌}
use native.Mathlib.Omega.{arith}
use native.Mathlib.Decide.{dec_lt}
use native.Mathlib.Nat.{add_assoc}
use borrow.Author.Tests.{eqb-true, eqb-false}
use lib.Dec.{eqb}
use lib.ListN.{length, set, take, drop, length-drop}
use lib.Seq.{take_all, take-set-le, drop-set-add, get_or-set_same, get_or-set_other, set_out}
use Rattle.terms.specs.Entry.{kind_carry}
use Rattle.terms.specs.Profile.{profile_of}
use Rattle.terms.specs.declared.entry.Entry.{Entry}
use Rattle.register.specs.declared.head.Head.{Head}
use Rattle.register.specs.Area.{area_bytes}
use Rattle.register.specs.Bytes.{byte_at, put_word, put_long}
use Rattle.register.specs.Entries.{entry_bytes, entry_start, put_entry}
use Rattle.register.specs.Head.{meter_bytes, carry_bytes, is_carry_at, carry_at, no_carry, head_of, put_head, head_bytes, most_entries, body_of, offset_after, entry_offset}
use Rattle.register.proofs.Back.{same_byte, same_word, same_long, entry_below, entry_first}
use Rattle.register.proofs.Heads.{Bare, head_same, head_above}

-- ---- sizes
-- a head and all the entries that may follow it have room in an area
pub head_room : (head : Head) → head_bytes head + entry_bytes * most_entries head ≤ area_bytes
unfolding head_bytes most_entries
head_room head = by_carry head.carried
  where
    by_carry : (b : Bool) → cond b (meter_bytes + carry_bytes) meter_bytes + entry_bytes * cond b 49 50 ≤ area_bytes
    by_carry true = omega arith
    by_carry false = omega arith

pub most_byte : (head : Head) → most_entries head < 256
unfolding most_entries
most_byte head = by_carry head.carried
  where
    by_carry : (b : Bool) → cond b 49 50 < 256
    by_carry true = omega arith
    by_carry false = omega arith

-- every head has the meter's entry
pub head_least : (head : Head) → meter_bytes ≤ head_bytes head
unfolding head_bytes
head_least head = by_carry head.carried
  where
    by_carry : (b : Bool) → meter_bytes ≤ cond b (meter_bytes + carry_bytes) meter_bytes
    by_carry true = omega arith
    by_carry false = omega arith

-- a head is no longer than an area
pub head_small : (head : Head) → head_bytes head ≤ area_bytes
head_small head = omega (arith, head_room head)

pub body_length : (a : List ℕ) → length a ≡ area_bytes → head_bytes (head_of a) + length (body_of a) ≡ area_bytes
unfolding body_of
body_length a size = rw (length-drop (head_bytes (head_of a)) a) (omega (arith, head_room (head_of a)))

pub body_room : (a : List ℕ) → length a ≡ area_bytes → entry_start (most_entries (head_of a)) ≤ length (body_of a)
body_room a size = omega (arith, body_length a size, head_room (head_of a))

-- what is lent from the head's end on is the body
pub body_lent : (a : List ℕ) (start : ℕ) → start ≡ head_bytes (head_of a) → take (length a - start) (drop start a) ≡ body_of a
unfolding body_of
body_lent a start e = rw (take_all (length a - start) (drop start a) (simp length-drop (omega arith)), e)

pub lent_room : (a : List ℕ) (head : Head) (start : ℕ) → head ≡ head_of a → start ≡ head_bytes (head_of a) → length a ≡ area_bytes → entry_start (most_entries head) ≤ length (take (length a - start) (drop start a))
lent_room a head start h e size = rw (body_lent a start e, h) (body_room a size)

-- an area has room for a head
pub area_fits : (a : List ℕ) (head : Head) → length a ≡ area_bytes → head_bytes head ≤ length a
area_fits a head size = omega (arith, head_small head)

-- after a head the body is what was there
pub head_body : (a : List ℕ) (head : Head) → head_bytes head ≤ length a → Bare a head → body_of (put_head a head) ≡ drop (head_bytes head) a
unfolding body_of
head_body a head room bare = rw (head_same a head room bare) (head_above a head (head_bytes head) (omega arith))

-- ---- areas that agree in the head's bytes, and in whether a carry is among them, have the same head
module _ (a b : List ℕ) (h : take (head_bytes (head_of a)) b ≡ take (head_bytes (head_of a)) a) (mark : is_carry_at b meter_bytes ≡ is_carry_at a meter_bytes) where
  carry_alike : (t : Bool) → is_carry_at a meter_bytes ≡ t → cond t (carry_at b meter_bytes) no_carry ≡ cond t (carry_at a meter_bytes) no_carry
  unfolding head_of head_bytes carry_at
  carry_alike false is = refl
  carry_alike true is =
      let g : take (meter_bytes + carry_bytes) b ≡ take (meter_bytes + carry_bytes) a = rw is at h in
      cc (
        same_long b a (meter_bytes + carry_bytes) g (meter_bytes + 1) (omega arith),
        same_word b a (meter_bytes + carry_bytes) g (meter_bytes + 5) (omega arith),
        same_word b a (meter_bytes + carry_bytes) g (meter_bytes + 7) (omega arith),
      )

  pub same_head : head_of b ≡ head_of a
  unfolding head_of
  same_head =
      let n = head_least (head_of a) in
      let profile = ap profile_of (same_byte b a (head_bytes (head_of a)) h 0 (omega (arith, n))) in
      let dials = same_byte b a (head_bytes (head_of a)) h 1 (omega (arith, n)) in
      let capacity = same_long b a (head_bytes (head_of a)) h 2 (omega (arith, n)) in
      let carry = ap (λ (t : Bool). cond t (carry_at b meter_bytes) no_carry) mark ∙ carry_alike (is_carry_at a meter_bytes) refl in
      λ t. record { profile = profile t; dials = dials t; capacity = capacity t; carried = mark t; carry = carry t }

  pub same_kind : byte_at b 0 ≡ byte_at a 0
  same_kind = same_byte b a (head_bytes (head_of a)) h 0 (omega (arith, head_least (head_of a)))

  same_body : body_of b ≡ drop (head_bytes (head_of a)) b
  unfolding body_of
  same_body = ap (λ (x : Head). drop (head_bytes x) b) same_head

-- ---- a store past n is one into what follows n
drop_word : (n : ℕ) (a : List ℕ) (i v : ℕ) → drop n (put_word a (n + i) v) ≡ put_word (drop n a) i v
unfolding put_word
drop_word n a i v = simp (add_assoc, drop-set-add)

drop_long : (n : ℕ) (a : List ℕ) (i v : ℕ) → drop n (put_long a (n + i) v) ≡ put_long (drop n a) i v
unfolding put_long
drop_long n a i v = simp (add_assoc, drop_word)

drop_entry : (n : ℕ) (a : List ℕ) (i : ℕ) (e : Entry) → drop n (put_entry a (n + i) e) ≡ put_entry (drop n a) i e
unfolding put_entry
drop_entry n a i e = simp (add_assoc, drop-set-add, drop_word, drop_long)

-- ---- a write into the body leaves the mark of a carry: that byte is the head's own, or the kind of the first entry
mark_of : (a b : List ℕ) → byte_at a meter_bytes ≡ byte_at b meter_bytes → is_carry_at a meter_bytes ≡ is_carry_at b meter_bytes
unfolding is_carry_at
mark_of a b e = ap (λ (k : ℕ). eqb k kind_carry) e

offset_least : (a : List ℕ) (k : ℕ) → meter_bytes ≤ entry_offset a k
unfolding entry_offset offset_after
offset_least a k = omega (arith, head_least (head_of a))

-- a kind other than a carry's
abbrev pub NoCarryKind : ℕ → Type 0
NoCarryKind kind = eqb kind kind_carry ≡ false

module _ (a : List ℕ) (k kind : ℕ) (other : NoCarryKind kind) where
  -- a head without a carry ends there
  bare_mark : (t : Bool) → is_carry_at a meter_bytes ≡ t → entry_offset a k ≡ meter_bytes → t ≡ false
  unfolding entry_offset offset_after head_bytes head_of
  bare_mark false is here = refl
  bare_mark true is here = absurd (let h : meter_bytes + carry_bytes + entry_start k ≡ meter_bytes = rw is at here in let f : ⊥ = omega arith in f)

  stored_mark : entry_offset a k ≡ meter_bytes → is_carry_at (set a (entry_offset a k) kind) meter_bytes ≡ is_carry_at a meter_bytes
  unfolding is_carry_at
  stored_mark here = rw here (pick (dec_lt meter_bytes (length a)))
    where
      bare : eqb (byte_at a meter_bytes) kind_carry ≡ false
      bare = bare_mark (is_carry_at a meter_bytes) refl here

      pick : Dec (meter_bytes < length a) → eqb (byte_at (set a meter_bytes kind) meter_bytes) kind_carry ≡ eqb (byte_at a meter_bytes) kind_carry
      pick (yes l) = ap (λ (b : ℕ). eqb b kind_carry) (get_or-set_same a meter_bytes kind 0 l) ∙ other ∙ sym bare
      pick (no l) = ap (λ (z : List ℕ). eqb (byte_at z meter_bytes) kind_carry) (set_out a meter_bytes kind (omega arith))

  set_mark : is_carry_at (set a (entry_offset a k) kind) meter_bytes ≡ is_carry_at a meter_bytes
  set_mark = pick (eqb meter_bytes (entry_offset a k)) refl
    where
      pick : (t : Bool) → eqb meter_bytes (entry_offset a k) ≡ t → is_carry_at (set a (entry_offset a k) kind) meter_bytes ≡ is_carry_at a meter_bytes
      pick true here = stored_mark (sym (eqb-true _ _ here))
      pick false there = mark_of _ a (get_or-set_other a (entry_offset a k) meter_bytes kind 0 (eqb-false _ _ there))

-- ---- an entry written, or given another kind, in the body
module _ (a : List ℕ) (k : ℕ) (e : Entry) (other : NoCarryKind e.kind) where
  below : take (head_bytes (head_of a)) (put_entry a (entry_offset a k) e) ≡ take (head_bytes (head_of a)) a
  unfolding entry_offset offset_after
  below = entry_below a (head_bytes (head_of a) + entry_start k) e (head_bytes (head_of a)) (omega arith)

  entry_mark : is_carry_at (put_entry a (entry_offset a k) e) meter_bytes ≡ is_carry_at a meter_bytes
  entry_mark =
      let i = entry_offset a k in
      mark_of (put_entry a i e) (set a i e.kind) (same_byte (put_entry a i e) (set a i e.kind) (i + 1) (entry_first a i e) meter_bytes (omega (arith, offset_least a k)))
      ∙ set_mark a k e.kind other

  pub entry_head : head_of (put_entry a (entry_offset a k) e) ≡ head_of a
  entry_head = same_head a (put_entry a (entry_offset a k) e) below entry_mark

  pub entry_head_kind : byte_at (put_entry a (entry_offset a k) e) 0 ≡ byte_at a 0
  entry_head_kind = same_kind a (put_entry a (entry_offset a k) e) below entry_mark

  pub entry_body : body_of (put_entry a (entry_offset a k) e) ≡ put_entry (body_of a) (entry_start k) e
  unfolding entry_offset offset_after body_of
  entry_body = same_body a (put_entry a (entry_offset a k) e) below entry_mark ∙ drop_entry (head_bytes (head_of a)) a (entry_start k) e

module _ (a : List ℕ) (k kind : ℕ) (other : NoCarryKind kind) where
  set_below : take (head_bytes (head_of a)) (set a (entry_offset a k) kind) ≡ take (head_bytes (head_of a)) a
  unfolding entry_offset offset_after
  set_below = take-set-le (head_bytes (head_of a)) a (head_bytes (head_of a) + entry_start k) kind (omega arith)

  pub kind_head : head_of (set a (entry_offset a k) kind) ≡ head_of a
  kind_head = same_head a (set a (entry_offset a k) kind) set_below (set_mark a k kind other)

  pub kind_head_kind : byte_at (set a (entry_offset a k) kind) 0 ≡ byte_at a 0
  kind_head_kind = same_kind a (set a (entry_offset a k) kind) set_below (set_mark a k kind other)

  pub kind_body : body_of (set a (entry_offset a k) kind) ≡ set (body_of a) (entry_start k) kind
  unfolding entry_offset offset_after body_of
  kind_body = same_body a (set a (entry_offset a k) kind) set_below (set_mark a k kind other) ∙ drop-set-add (head_bytes (head_of a)) a (entry_start k) kind

-- ---- areas with one head have their entries at the same bytes
pub same_offset : (a b : List ℕ) (k : ℕ) → head_of b ≡ head_of a → entry_offset b k ≡ entry_offset a k
unfolding entry_offset offset_after
same_offset a b k h = rw h
