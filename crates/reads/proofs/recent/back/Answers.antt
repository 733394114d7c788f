-- The entries taken off do not stand.
use mathlib.Core.Path.{◌≡◌}
use Prim.Native.Nat.{suc, ◌+◌, ◌-◌}
use native.Mathlib.Omega.{arith}
use borrow.Author.Tests.{eq-eqb, ne_eqb}
use Rattle.terms.specs.Entry.{is_standing, those}
use Rattle.register.specs.Entries.{entry_at}
use Rattle.journal.specs.Journal.{entries_to}
use Rattle.journal.proofs.Entries.{last_entry}
use Rattle.reads.proofs.recent.back.Goals as goal

pub returns-then-body-k : goal.returns-then-body-k
unfolding is_standing entry_at
returns-then-body-k c =
    let k = c.loop-k.k in
    let kind = eq-eqb _ _ c.if-body-k.true in
    let e : k - 1 + 1 ≡ k = omega (arith, c.loop-k-test.true) in
    record { fewer = omega arith; same = rw e c.loop-k.invariant; stands = λ j h. (let e : k - 1 ≡ j = omega arith in rw e at kind) }

pub loop-k-preserved : goal.loop-k-preserved
unfolding is_standing entry_at entries_to those
loop-k-preserved c =
    let e : c.loop-k.k ≡ suc (c.loop-k.k - 1) = omega (arith, c.loop-k-test.true) in
    let kind = ne_eqb _ _ c.if-body-k.false in
    rw (← c.loop-k.invariant, last_entry _ e) (rw kind)

pub returns : goal.returns
returns c =
    let e : c.loop-k.k ≡ 0 = omega (arith, c.loop-k-test.false) in
    record { fewer = omega arith; same = rw e at c.loop-k.invariant; stands = λ j h. absurd (omega arith) }
