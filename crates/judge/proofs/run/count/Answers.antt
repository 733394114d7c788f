-- A standing entry, and one that changes only the count.
use mathlib.Core.Path.{◌≡◌, refl, sym, ◌∙◌}
use mathlib.Core.Bool.{Bool, true, false, cond}
use Prim.Native.Nat.{ℕ, ◌+◌}
use native.Mathlib.Omega.{arith}
use mir.Val.{bool_byte}
use Rattle.journal.specs.Journal.{is_flagged}
use Rattle.judge.proofs.Runs.{run_more}
use Rattle.judge.proofs.run.count.Goals as goal

flagged_more : (b : Bool) (n : ℕ) → n + bool_byte b ≡ cond b (n + 1) n
flagged_more true n = refl
flagged_more false n = omega arith

pub returns-then-is_standing : goal.returns-then-is_standing
unfolding is_flagged
returns-then-is_standing c = λ es h. c.stand.ensures.1 es (sym c.is_standing.ensures ∙ c.if-is_standing.true) (rw c.from.ensures (flagged_more _ c.args.run.flagged)) h

pub returns : goal.returns
returns c = λ es h. rw (run_more, ← h, sym c.is_standing.ensures ∙ c.if-is_standing.false)
