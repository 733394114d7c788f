-- Each test gives one part of what a plain body is.
use Prim.Native.Nat.{◌+◌, ◌*◌, ◌≤◌}
use native.Mathlib.Omega.{arith}
use borrow.Author.Tests.{leb-true}
use Rattle.journal.proofs.Bools.{false_is}
use Rattle.judge.proofs.run.is_plain_body.Goals as goal

pub returns-then-e-last : goal.returns-then-e-last
returns-then-e-last c = λ h. false_is h

pub returns-then-limit-e : goal.returns-then-limit-e
returns-then-limit-e c = λ h. false_is h

pub returns-then-not-is_plain_letter : goal.returns-then-not-is_plain_letter
returns-then-not-is_plain_letter c = λ h. false_is h

pub returns : goal.returns
returns c =
    let e = c.args.e in
    λ h.
    (let low : e.indicator + 256 * e.flag ≤ 2 = leb-true _ _ h in
    record {
      later = c.if-e-last.false;
      small = c.if-limit-e.false;
      letter = c.is_plain_letter.ensures (c.if-not-is_plain_letter.false);
      indicator = omega arith;
      flag = omega arith;
    })
