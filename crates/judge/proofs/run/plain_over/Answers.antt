-- Each turn passes one more, which stands as all before it.
use mathlib.Core.Path.{◌≡◌, refl, ◌∙◌}
use mathlib.Core.List.{[]}
use Prim.Native.Nat.{ℕ, ◌+◌, ◌-◌}
use native.Mathlib.Omega.{arith}
use Rattle.journal.specs.Journal.{withdrawn}
use Rattle.judge.specs.declared.body.Body.{Body}
use Rattle.judge.specs.declared.run.Run.{Run}
use Rattle.judge.specs.Inner.Run.{firsts, ran_to}
use Rattle.judge.specs.Inner.Plain.{RunsTo, StandsTo}
use Rattle.judge.proofs.Runs.{runs_none, runs_one, all_run, plain_start, stand_one, none_withdrawn, withdrawn_still}
use Rattle.judge.proofs.Clashes.{stands_unwithdrawn}
use Rattle.judge.proofs.Indexes.{indexed_unwithdrawn}
use Rattle.judge.proofs.run.plain_over.Goals as goal

-- a run to k entries that all stand
stands_to : {b : Body} {from r : Run} {k day : ℕ} → r ≡ ran_to from k day (k - 1) k → RunsTo b from (ran_to from k day (k - 1) k) → (k ≡ 0 → ⊥) → withdrawn (firsts b k) ≡ [] → StandsTo b from r
stands_to e runs some none = rw e (record { runs = runs; some = some; indexed = λ index is. indexed_unwithdrawn _ _ none is.long; none = λ h. none })

pub returns-then-from : goal.returns-then-from
returns-then-from c = record { runs = runs_none c.requires.0; some = c.requires.1; indexed = λ index is. is; none = λ none. none }

pub loop-k-init : goal.loop-k-init
loop-k-init c =
    let from = c.args.from in
    let stand = all_run from _ c.requires.0.run_is c.if-from.false in
    (omega arith, c.requires.0.few, rw (plain_start from c.if-from.false stand.1) (runs_none c.requires.0), stand.0)

pub loop-k-preserved : goal.loop-k-preserved
loop-k-preserved c =
    let inv = c.loop-k.invariant in
    let body = c.args.body in
    let k = c.loop-k.k in
    let is = c.is_plain.ensures c.if-not-is_plain.false in
    let last : k + 1 - 1 ≡ k = omega arith in
    let some : k ≡ 0 → ⊥ = λ z. c.requires.1 (omega (arith, inv.0)) in
    let one = stand_one body.head body.limit_is (firsts body k) (ran_to c.args.from k c.loop-k.day (k - 1) k) is.body is.stands some (none_withdrawn _ _ _ inv.3) refl in
    (omega (arith, inv.0), omega arith, rw last (runs_one inv.2 c.loop-k-test.true c.at-e.ensures one), withdrawn_still _ _ c.at-e.ensures (stands_unwithdrawn _ is.stands) ∙ inv.3)

pub returns : goal.returns
returns c =
    let inv = c.loop-k.invariant in
    stands_to (rw c.saturating_sub.ensures at c.run_to.ensures) inv.2 (λ z. c.requires.1 (omega (arith, inv.0))) inv.3
