-- The stores are the definition's, in its order, and each is within the area.
use mathlib.Core.List.{List}
use mathlib.Core.Path.{◌≡◌, sym}
use Prim.Native.Nat.{ℕ, ◌+◌, ◌/◌, ◌%◌}
use native.Mathlib.Nat.{add_assoc}
use native.Mathlib.Omega.{arith}
use lib.ListN.{set}
use Rattle.terms.specs.declared.entry.Entry.{Entry}
use Rattle.register.specs.Bytes.{put_word, put_long}
use Rattle.register.specs.Entries.{put_entry}
use Rattle.register.proofs.write.put_within.Goals as goal

-- the ten stores of the definition, each counted from the first byte
stores : (l : List ℕ) (at : ℕ) (e : Entry) →
    put_entry l at e
    ≡ set (set (set (set (set (set (set (set (set (set l at e.kind)
    (at + 1) (e.day % 256)) (at + 2) (e.day / 256))
    (at + 3) (e.value % 65536 % 256)) (at + 4) (e.value % 65536 / 256))
    (at + 5) (e.value / 65536 % 256)) (at + 6) (e.value / 65536 / 256))
    (at + 7) e.letter) (at + 8) e.indicator) (at + 9) e.flag
unfolding put_entry put_long put_word
stores l at e = simp add_assoc

pub returns : goal.returns
returns c =
    let e = c.args.e in
    let day : e.day / 256 % 256 ≡ e.day / 256 = omega arith in
    let first : e.value % 65536 % 256 ≡ e.value % 256 = omega arith in
    let second : e.value % 65536 / 256 ≡ e.value / 256 % 256 = omega arith in
    let fourth : e.value / 65536 / 256 ≡ e.value / 16777216 % 256 = omega arith in
    rw (c.to_le_bytes-day.ensures, c.to_le_bytes-value.ensures, day) (sym (rw (first, second, fourth) at (stores c.args.area.now c.args.at e)))
