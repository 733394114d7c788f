-- An empty bucket rules out all, and one with an entry all but that one.
use mathlib.Core.Path.{◌≡◌, sym, ◌∙◌}
use Prim.Native.Nat.{◌-◌}
use native.Mathlib.Omega.{arith}
use borrow.Author.Tests.{not-true}
use Rattle.judge.specs.Inner.Index.{Clear}
use Rattle.judge.proofs.Indexes.{none_indexed, empty_clear}
use Rattle.judge.proofs.index.Index.is_clear.Goals as goal

pub returns-then-there-eq0 : goal.returns-then-there-eq0
returns-then-there-eq0 c = λ h. none_indexed _ _ _ c.requires.1 (empty_clear _ _ _ (rw c.there-there.ensures at c.if-there-eq0.true))

pub returns : goal.returns
returns c =
    let there = c.there-there.result in
    λ h.
    (let clear : Clear c.args.body.bytes.now there c.args.e.day c.args.e.value =
    record {
      sparse = λ z. omega (arith, c.if-k-there.false, c.args.body.few);
      other =
          λ i z w.
          (let at : there - 1 ≡ i = omega arith in
          rw at at (rw c.at.ensures at (sym c.has_read.ensures ∙ not-true _ h)));
    } in
    none_indexed _ _ _ c.requires.1 (rw c.there-there.ensures at clear))
