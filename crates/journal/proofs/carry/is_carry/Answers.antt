-- Each test is the definition's, the last of them by the day: no read is before every day.
use Rattle.terms.specs.declared.entry.Entry.{Entry}
use Rattle.std.specs.Prelude.{Option, Some, None}
use mathlib.Core.Path.{◌≡◌, refl, sym}
use Prim.Native.Nat.{ℕ}
use native.Mathlib.Omega.{arith}
use borrow.Author.Tests.{le-ltb}
use lib.Dec.{ltb}
use Rattle.journal.specs.Journal.{day_of}
use Rattle.journal.specs.Sound.{holds, is_before, is_carry}
use Rattle.journal.proofs.carry.is_carry.Goals as goal

before_day : (folded : ℕ) (slot : Option Entry) → is_before folded slot ≡ ltb folded (day_of slot)
unfolding is_before day_of
before_day folded (Some oldest) = refl
before_day folded None = sym (le-ltb folded 0 (omega arith))

pub returns : goal.returns
unfolding is_carry holds
returns c = λ limit slot day. rw (before_day, ← day, ← limit)
