-- Past some plain entries, or past none and then one entry.
use native.Mathlib.Omega.{arith}
use Rattle.judge.proofs.Passes.{passes_on, goes_after}
use Rattle.judge.proofs.pass.pass_next.Goals as goal

pub returns-then-ran-pass : goal.returns-then-ran-pass
returns-then-ran-pass c =
    let plain = c.pass_plain-ran.ensures in
    passes_on plain.0 plain.1 c.if-ran-pass.true

pub pass_entry-requires : goal.pass_entry-requires
pass_entry-requires c =
    let plain = c.pass_plain-ran.ensures in
    record { counted = (omega (arith, c.requires.counted.0, c.if-ran-pass.false), plain.0.runs); indexed = plain.1 }

pub returns : goal.returns
returns c = goes_after c.pass_plain-ran.ensures.0 c.if-ran-pass.false _ _ c.pass_entry.ensures
