-- A withdrawn entry is put into the index, and is clear if it is later than all that stand; a standing one is as its bucket says.
use mathlib.Core.Path.{sym, ◌∙◌}
use borrow.Author.Tests.{ltb-true}
use Rattle.judge.proofs.Clashes.{stands_unwithdrawn, free_standing, free_withdrawn, free_other}
use Rattle.judge.proofs.Indexes.{indexed_pass, indexed_put}
use Rattle.judge.proofs.Runs.{run_day}
use Rattle.judge.proofs.pass.compare.Goals as goal

pub returns-then-is_withdrawn : goal.returns-then-is_withdrawn
returns-then-is_withdrawn c =
    let run = c.args.run in
    let e = c.args.e in
    let gone = sym c.is_withdrawn.ensures ∙ c.if-is_withdrawn.true in (
      λ h is rises. free_withdrawn e _ gone rises (rw (run_day _ is) at (ltb-true run.day e.day h)),
      rw c.put.ensures (indexed_put _ _ _ c.requires.indexed c.requires.counted.1),
    )

pub returns-then-not-is_standing : goal.returns-then-not-is_standing
returns-then-not-is_standing c =
    let stays = sym c.is_withdrawn.ensures ∙ c.if-is_withdrawn.false in
    (λ h is rises. free_other c.args.e _ (sym c.is_standing.ensures ∙ c.if-not-is_standing.true) stays, indexed_pass _ _ _ c.requires.indexed c.requires.counted.1 stays)

pub returns : goal.returns
returns c =
    let stands = sym c.is_standing.ensures ∙ c.if-not-is_standing.false in (
      λ h is rises. free_standing c.args.e _ stands (c.is_clear.ensures h),
      indexed_pass _ _ _ c.requires.indexed c.requires.counted.1 (stands_unwithdrawn _ stands),
    )
