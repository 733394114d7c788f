-- What is left of the search goes on where the entries passed have ended: withdrawn and held ones leave it as it is, and a later one adds to
-- what was compared.
use mathlib.Core.Path.{◌≡◌, sym, ◌∙◌}
use Prim.Native.Nat.{suc, ◌-◌}
use native.Mathlib.Omega.{arith}
use Rattle.terms.specs.Entry.{those}
use Rattle.journal.specs.Journal.{entries_to}
use Rattle.reads.specs.Search.{search_from}
use Rattle.reads.proofs.Searched.{passed_over, passed_later, ended}
use Rattle.reads.proofs.search.search_back.Goals as goal

pub returns-then-e-day : goal.returns-then-e-day
returns-then-e-day c =
    let one : c.loop-k.k ≡ suc (c.loop-k.k - 1) = omega (arith, c.loop-k-test.true) in
    let is = c.entry_at-e.ensures in
    c.end_at.ensures
    ∙ rw is (sym (ended _ _ _ one (rw is at (sym c.is_standing.ensures ∙ c.if-is_standing.true)) (rw is at c.if-e-day.true)))
    ∙ c.loop-k.invariant.1

pub loop-k-preserved-then-is_standing : goal.loop-k-preserved-then-is_standing
loop-k-preserved-then-is_standing c =
    let one : c.loop-k.k ≡ suc (c.loop-k.k - 1) = omega (arith, c.loop-k-test.true) in
    let is = c.entry_at-e.ensures in
    (omega arith, sym (passed_later _ _ _ one (rw is at (sym c.is_standing.ensures ∙ c.if-is_standing.true)) (rw is at c.if-e-day.false)) ∙ c.loop-k.invariant.1)

pub loop-k-preserved : goal.loop-k-preserved
loop-k-preserved c =
    let one : c.loop-k.k ≡ suc (c.loop-k.k - 1) = omega (arith, c.loop-k-test.true) in
    let is = c.entry_at-e.ensures in
    (omega arith, sym (passed_over _ _ _ one (rw is at (sym c.is_standing.ensures ∙ c.if-is_standing.false))) ∙ c.loop-k.invariant.1)

pub returns : goal.returns
unfolding entries_to those search_from
returns c =
    let none : c.loop-k.k ≡ 0 = omega (arith, c.loop-k-test.false) in
    c.not_found.ensures ∙ rw none at c.loop-k.invariant.1
