-- What is passed is in order, and its withdrawn entries are in the index; the first entry that may not follow decides the whole.
use native.Mathlib.Omega.{arith}
use Rattle.journal.proofs.Entries.{count_ends, count_all}
use Rattle.judge.proofs.Indexes.{indexed_unwithdrawn}
use Rattle.judge.proofs.Passes.{pass_run, all_passed, never_passed}
use Rattle.judge.proofs.pass.pass_rest.Goals as goal

pub loop-pass-init : goal.loop-pass-init
loop-pass-init c =
    let opened = c.requires in
    (record { few = opened.few; run_is = pass_run _ _ opened.pass.same }, opened.pass, opened.goes, indexed_unwithdrawn _ _ opened.none (omega arith))

pub returns-in_err-pass-clause-passed : goal.returns-in_err-pass-clause-passed
returns-in_err-pass-clause-passed c =
    let inv = c.loop-pass.invariant in
    rw c.from_residual.ensures (never_passed c.args.body _ inv.1 inv.2 c.pass_next.new.index.buckets (rw c.kind_at.ensures at c.if-kind_at-eq0.false) c.in_err-pass.ensures)

pub returns-after-loop-pass-clause-passed : goal.returns-after-loop-pass-clause-passed
returns-after-loop-pass-clause-passed c =
    let inv = c.loop-pass.invariant in
    all_passed c.args.body _ inv.1 inv.2 (count_all _ _ _ (omega arith))

pub returns-then-kind_at-eq0-clause-passed : goal.returns-then-kind_at-eq0-clause-passed
returns-then-kind_at-eq0-clause-passed c =
    let inv = c.loop-pass.invariant in
    all_passed c.args.body _ inv.1 inv.2 (count_ends _ _ _ (omega arith) (rw c.kind_at.ensures at c.if-kind_at-eq0.true))
