-- The last standing read stands, so the definition's first test fails where its second does; else both stand in its order.
use mathlib.Core.Path.{◌≡◌, sym, ◌∙◌}
use mathlib.Core.Bool.{true, false, ◌&&◌}
use mathlib.Core.List.{List, [], ◌∷◌}
use Prim.Native.Nat.{ℕ}
use borrow.Author.Tests.{not-false}
use lib.Dec.{eqb}
use lib.ListN.{length}
use Rattle.terms.specs.declared.entry.Entry.{Entry}
use Rattle.terms.specs.Entry.{slot_at}
use Rattle.terms.specs.Refusal.{number_of}
use Rattle.journal.specs.Journal.{Journal, standing}
use Rattle.judge.specs.declared.area.Summary.{Summary}
use Rattle.judge.specs.Inner.Judged.{counts_of, summary_of}
use Rattle.journal.specs.Sound.{any, has_read}
use Rattle.journal.proofs.Bools.{false_is}
use Rattle.calls.specs.Checks.{is_not_standing, is_not_last, withdraw_rules}
use Rattle.calls.proofs.Days.{alone_oldest}
use Rattle.meter.proofs.withdraw.check_withdrawal.Goals as goal

last_stands : (day value : ℕ) (ss : List Entry) → is_not_last day value (slot_at ss 0) ≡ false → any (has_read day value) ss ≡ true
unfolding slot_at is_not_last any
last_stands day value [] h = false_is (sym h)
last_stands day value (s ∷ ss) h = rw (not-false (has_read day value s) h)

-- the read is the last: whether it is the oldest too
counted_alone : (j : Journal) (t : Summary) → t ≡ summary_of j → j.head.carried && eqb (length (standing j.entries)) 1 ≡ t.head.carried && eqb t.counts.standing 1
unfolding summary_of counts_of
counted_alone j t e = rw e

pub returns-then-has_standing : goal.returns-then-has_standing
unfolding withdraw_rules is_not_standing number_of
returns-then-has_standing c = rw (← c.has_standing.ensures, c.if-has_standing.true, ← c.is_not_last.ensures, c.if-is_not_last.true)

pub returns-then-is_not_last : goal.returns-then-is_not_last
unfolding withdraw_rules is_not_standing number_of
returns-then-is_not_last c = rw (← c.has_standing.ensures, c.if-has_standing.false)

pub returns-then-t : goal.returns-then-t
unfolding withdraw_rules is_not_standing number_of
returns-then-t c =
    let is = c.args.journal.now.counted in
    let last = sym c.is_not_last.ensures ∙ c.if-is_not_last.false in
    rw (last_stands _ _ _ last, last, alone_oldest _ _ _ is.sound last, counted_alone _ _ is.summary, c.if-t.true)

pub returns : goal.returns
unfolding withdraw_rules is_not_standing
returns c =
    let is = c.args.journal.now.counted in
    let last = sym c.is_not_last.ensures ∙ c.if-is_not_last.false in
    rw (last_stands _ _ _ last, last, alone_oldest _ _ _ is.sound last, counted_alone _ _ is.summary, c.if-t.false)
