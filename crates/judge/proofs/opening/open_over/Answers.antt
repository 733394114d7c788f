-- The pass starts with nothing, or with the read that opens the journal and the run of plain ones after it.
use mathlib.Core.Path.{◌≡◌, sym, ap, ◌∙◌}
use mathlib.Core.Bool.{Bool, true, false, not, ◌||◌}
use mathlib.Core.List.{[]}
use Prim.Native.Nat.{ℕ, ◌+◌}
use native.Mathlib.Omega.{arith}
use borrow.Author.Tests.{eqb-true, not-false}
use lib.Dec.{eqb}
use Rattle.journal.specs.Journal.{is_flagged}
use Rattle.judge.proofs.Passes.{none_run, starts_none, first_run, starts_first}
use Rattle.journal.proofs.Bools.{neither}
use Rattle.judge.proofs.opening.open_over.Goals as goal

-- the most entries may follow
most_is : (most : ℕ) (all : Bool) → (not (eqb most 50) || not all) ≡ false → most ≡ 50
most_is most all h = eqb-true most 50 (not-false _ (neither (not (eqb most 50)) (not all) h).0)

-- and the meter takes every type
all_taken : (most : ℕ) (all : Bool) → (not (eqb most 50) || not all) ≡ false → all ≡ true
all_taken most all h = not-false _ (neither (not (eqb most 50)) (not all) h).1

pub returns-then-body-takes_all : goal.returns-then-body-takes_all
returns-then-body-takes_all c = rw c.open_pass.ensures (starts_none c.args.body (none_run _ c.default-none.ensures))

pub returns-then-not-is_first : goal.returns-then-not-is_first
returns-then-not-is_first c = rw c.open_pass-then-not-is_first.ensures (starts_none c.args.body (none_run _ c.default-none.ensures))

pub plain_over-requires : goal.plain_over-requires
unfolding is_flagged
plain_over-requires c =
    let none = none_run _ c.default-none.ensures in
    let first = c.is_first.ensures c.if-not-is_first.false in
    let one = c.stand.ensures.0 ∙ ap (λ (n : ℕ). n + 1) c.default-none.ensures.1.1.0 in
    let opened = c.stand.ensures.1 [] first.stands (rw first.flag (sym c.default-none.ensures.1.1.1.1.0)) none in
    first_run c.args.body c.at-e.ensures (omega (arith, most_is _ _ c.if-body-takes_all.false)) one opened first.stands

pub returns : goal.returns
returns c =
    let most = most_is _ _ c.if-body-takes_all.false in
    let run = c.plain_over.ensures in
    rw c.open_pass-2.ensures
    (starts_first
    c.args.body
    c.at-e.ensures
    (omega (arith, most))
    (sym c.takes_all.ensures ∙ all_taken _ _ c.if-body-takes_all.false)
    (c.is_first.ensures c.if-not-is_first.false)
    (c.stand.ensures.0 ∙ ap (λ (n : ℕ). n + 1) c.default-none.ensures.1.1.0)
    run.runs
    run.none)
