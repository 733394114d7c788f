-- Each turn passes one more.
use mathlib.Core.Path.{◌≡◌, refl, sym, ◌∙◌}
use native.Mathlib.Omega.{arith}
use Rattle.judge.specs.Inner.Run.{firsts, ran_to}
use Rattle.judge.proofs.Runs.{run_small, runs_none, runs_one, stand_one, withdraw_one}
use Rattle.judge.proofs.Clashes.{stands_unwithdrawn}
use Rattle.judge.proofs.Indexes.{indexed_pass, indexed_put}
use Rattle.judge.proofs.run.run_over.Goals as goal
use Rattle.judge.proofs.run.run_over.Goals.{then-is_standing, else-is_standing}

pub loop-k-init : goal.loop-k-init
loop-k-init c =
    let is = c.requires.counted.0 in
    (omega arith, (run_small c.args.from _ _ is.run_is).1, runs_none is, c.requires.indexed)

pub loop-k-preserved : goal.loop-k-preserved
loop-k-preserved c =
    let inv = c.loop-k.invariant in
    let body = c.args.body in
    let k = c.loop-k.k in
    let e = c.at-e.ensures in
    let next = c.is_plain_next.ensures c.if-not-is_plain_next.false in
    let run = ran_to c.args.from k c.loop-k.day c.loop-k.newest c.loop-k.standing in
    elim c.if-is_standing.branch [
      | then-is_standing w ↦
          (let stands = sym c.is_standing.ensures ∙ w.if-is_standing.true in
          let some : c.loop-k.standing ≡ 0 → ⊥ = λ z. c.requires.counted.1 (omega (arith, inv.0)) in
          let one = stand_one body.head body.limit_is (firsts body k) run next.body stands some (next.clear stands) refl in
          rw (w.index-is, w.day-is, w.newest-is, w.standing-is)
          (omega (arith, inv.0), omega (arith, inv.1), runs_one inv.2 c.loop-k-test.true e one, indexed_pass _ _ _ inv.3 e (stands_unwithdrawn _ stands)))
      | else-is_standing w ↦
          (let one = withdraw_one body.head body.limit_is (firsts body k) run next.body (next.other (sym c.is_standing.ensures ∙ w.if-is_standing.false)) refl in
          rw (w.index-is, w.day-is, w.newest-is, w.standing-is, w.put.ensures) (inv.0, omega (arith, inv.1), runs_one inv.2 c.loop-k-test.true e one, indexed_put _ _ _ inv.3 e))
    ]

pub returns : goal.returns
returns c =
    let e : c.loop-k.k ≡ c.args.body.most = omega (arith, c.requires.counted.0.few) in
    let inv = rw e at c.loop-k.invariant in
    rw c.run_to-2.ensures (inv.2, inv.3)
