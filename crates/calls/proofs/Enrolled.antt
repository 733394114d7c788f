-- An enrolment writes the head into an area of zeros, and leaves a sound journal with no entries.
use mathlib.Core.Path.{◌≡◌, refl, ap, ◌∙◌}
use mathlib.Core.Bool.{true, false}
use mathlib.Core.List.{List, []}
use Prim.Native.Nat.{ℕ, ◌≤◌}
use native.Mathlib.Omega.{arith}
use lib.Dec.{eqb}
use lib.ListN.{length, drop}
use Rattle.register.specs.declared.head.Head.{Head}
use Rattle.register.specs.Area.{area_bytes, all_zero}
use Rattle.register.specs.Entries.{entry_start}
use Rattle.register.specs.Head.{meter_bytes, is_carry_at, no_carry, head_of, head_bytes, most_entries, body_of, put_head}
use Rattle.register.proofs.Heads.{Bare, head_length, head_kind, head_same}
use Rattle.register.proofs.Body.{area_fits, head_body}
use Rattle.journal.specs.Journal.{entries_to, journal_of}
use Rattle.terms.specs.Entry.{kind_carry, those}
use Rattle.journal.specs.Sound.{every, days_rise, opens_right, has_one_final, is_held_right, are_apart, are_in_order, are_sound, is_plate, is_sound}
use Rattle.calls.proofs.Zeros.{zero_at, zero_drop}
use Rattle.calls.proofs.Carried.{uncarried_right}
use Rattle.calls.proofs.Shape.{entries_are, sound_from, good_head}

pub record Enrolled (head : Head) (after : List ℕ) : Type 0 where
  pub size : length after ≡ area_bytes
  pub sound : is_sound after ≡ true
  pub journal : journal_of after ≡ record { head = head; entries = [] }

module _ (head : Head) (a : List ℕ) (size : length a ≡ area_bytes) (empty : all_zero a ≡ true) (plate : is_plate head ≡ true) (bare : head.carried ≡ false) (none : head.carry ≡ no_carry) where
  abbrev after : List ℕ
  after = put_head a head

  fits : head_bytes head ≤ length a
  fits = area_fits a head size

  clear : Bare a head
  unfolding is_carry_at
  clear _ = (none, ap (λ (k : ℕ). eqb k kind_carry) (zero_at a meter_bytes empty))

  same : head_of after ≡ head
  same = head_same a head fits clear

  few : 0 ≤ most_entries (head_of after)
  few = omega arith

  end : all_zero (drop (entry_start 0) (body_of after)) ≡ true
  end = rw (head_body a head fits clear) (zero_drop (entry_start 0) (drop (head_bytes head) a) (zero_drop (head_bytes head) a empty))

  no_entries : (journal_of after).entries ≡ []
  unfolding entries_to every
  no_entries = entries_are after 0 few end refl

  pub enrolled : Enrolled head after
  unfolding entries_to every journal_of are_sound are_in_order those days_rise opens_right has_one_final is_held_right are_apart
  enrolled = record {
    size = head_length a head ∙ size;
    sound = sound_from after 0 few end (good_head after head same (head_kind a head fits) plate) (uncarried_right (head_of after) [] (rw same bare));
    journal = λ t. record { head = same t; entries = no_entries t };
  }
