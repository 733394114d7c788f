-- Where there is room, the body that is lent has the entries.
use mathlib.Core.Path.{◌≡◌}
use mathlib.Core.Bool.{true}
use mathlib.Core.List.{List}
use Prim.Native.Nat.{ℕ, ◌-◌, ◌≤◌, ◌<◌}
use native.Mathlib.Omega.{arith}
use borrow.Author.Tests.{eqb-true, eq-eqb, leb-true, le-leb}
use lib.Dec.{eqb, leb}
use lib.ListN.{length, take, drop, length-drop}
use lib.Seq.{take_all}
use Rattle.register.specs.Area.{area_bytes}
use Rattle.register.specs.declared.head.Head.{Head}
use Rattle.register.specs.Entries.{entry_start}
use Rattle.register.specs.Head.{head_bytes, most_entries}
use Rattle.register.proofs.Body.{head_room, head_small}
use Rattle.journal.proofs.Bools.{both}
use Rattle.reads.specs.Inner.Room.{has_room}

-- ---- what is lent from the head's end on
pub lent_is : (a : List ℕ) (head : Head) {start : ℕ} → start ≡ head_bytes head → take (length a - start) (drop start a) ≡ drop (head_bytes head) a
lent_is a head {start} e = rw (take_all (length a - start) (drop start a) (simp length-drop (omega arith)), e)

pub room_is : (a : List ℕ) (head : Head) (m : ℕ) → length a ≡ area_bytes → m ≤ most_entries head → has_room a head m ≡ true
unfolding has_room
room_is a head m long few = rw (eq-eqb (length a) area_bytes long, le-leb m (most_entries head) few)

module _ (a : List ℕ) (head : Head) (m : ℕ) {start : ℕ} (room : has_room a head m ≡ true) (starts : start ≡ head_bytes head) where
  long : length a ≡ area_bytes
  unfolding has_room
  long = eqb-true (length a) area_bytes (both (eqb (length a) area_bytes) (leb m (most_entries head)) room).0

  few : m ≤ most_entries head
  unfolding has_room
  few = leb-true m (most_entries head) (both (eqb (length a) area_bytes) (leb m (most_entries head)) room).1

  pub few_entries : m < 256
  few_entries = omega (arith, few, head_room head)

  pub start_room : start ≤ length a
  start_room = omega (arith, starts, long, head_small head)

  pub lent_room : entry_start m ≤ length (take (length a - start) (drop start a))
  lent_room = rw (lent_is a head starts, length-drop (head_bytes head) a) (omega (arith, long, few, head_room head))
