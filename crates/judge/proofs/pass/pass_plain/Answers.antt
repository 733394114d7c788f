-- Where a read stands and none is held, the pass with the run is that of the entries passed.
use mathlib.Core.Path.{refl, sym, ◌∙◌}
use native.Mathlib.Omega.{arith}
use borrow.Author.Tests.{eqb-false}
use Rattle.judge.proofs.Passes.{pass_open, open_pass}
use Rattle.journal.proofs.Bools.{neither}
use Rattle.judge.proofs.pass.pass_plain.Goals as goal

pub returns-then-not-takes_all : goal.returns-then-not-takes_all
returns-then-not-takes_all c = (record { more = omega arith; runs = c.requires.counted; goes = refl; pass = λ is. is }, c.requires.indexed)

pub returns-then-pass-from : goal.returns-then-pass-from
returns-then-pass-from c = (record { more = omega arith; runs = c.requires.counted; goes = refl; pass = λ is. is }, c.requires.indexed)

pub plain_over-plain-requires : goal.plain_over-plain-requires
plain_over-plain-requires c = (c.requires.counted, eqb-false c.args.pass.run.standing 0 (neither c.args.pass.held _ c.if-pass-from.false).1)

pub run_over-requires : goal.run_over-requires
run_over-requires c =
    let plain = c.plain_over-plain.ensures in
    record { counted = (plain.runs.runs, plain.some); indexed = plain.indexed _ c.requires.indexed }

pub returns : goal.returns
returns c =
    let run = c.run_over.ensures in
    let plain = c.plain_over-plain.ensures in
    let p = c.args.pass in
    -- none is held, and a read stands
    let neither_is = neither p.held _ c.if-pass-from.false in
    let all = sym c.takes_all.ensures ∙ c.if-not-takes_all.false in (
      record {
        more = omega (arith, run.0.more, plain.runs.more);
        runs = run.0.runs;
        goes = plain.runs.goes ∙ run.0.goes;
        pass =
            λ is.
            (let opened = plain.runs.opened p.ended p.apart all (pass_open p is (eqb-false p.run.standing 0 neither_is.1) neither_is.0) in
            rw neither_is.0 (open_pass _ run.0.runs.run_is (run.0.opened p.ended p.apart all opened)));
      },
      run.1,
    )
