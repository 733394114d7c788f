-- What was counted has the day and the value of the first of the standing reads, the newest.
use mathlib.Core.Path.{◌≡◌, refl}
use mathlib.Core.Bool.{not, ◌&&◌}
use mathlib.Core.List.{List, [], ◌∷◌}
use Prim.Native.Nat.{ℕ, ◌<◌}
use native.Mathlib.Omega.{arith}
use borrow.Author.Tests.{lt-ltb}
use lib.Dec.{eqb, ltb}
use lib.ListN.{length}
use Rattle.terms.specs.declared.entry.Entry.{Entry}
use Rattle.terms.specs.Entry.{slot_at}
use Rattle.journal.specs.Journal.{journal_of, standing, day_of}
use Rattle.journal.specs.Sound.{has_read}
use Rattle.judge.specs.Inner.Judged.{counts_of, value_of, summary_of}
use Rattle.calls.specs.Checks.{is_not_last}
use Rattle.meter.proofs.withdraw.is_not_last.Goals as goal

by_last : (day value : ℕ) (ss : List Entry) → not (ltb 0 (length ss) && (eqb (day_of (slot_at ss 0)) day && eqb (value_of (slot_at ss 0)) value)) ≡ is_not_last day value (slot_at ss 0)
unfolding slot_at day_of value_of is_not_last has_read
by_last day value [] = refl
by_last day value (s ∷ ss) =
    let some : 0 < length (s ∷ ss) = omega arith in
    rw (lt-ltb 0 (length (s ∷ ss)) some)

pub returns : goal.returns
unfolding summary_of counts_of
returns c = rw c.args.journal.now.counted.summary (by_last _ _ (standing (journal_of c.args.journal.now.area.now).entries))
