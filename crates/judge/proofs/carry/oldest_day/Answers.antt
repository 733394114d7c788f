-- None of the entries passed stands; the first that does is the oldest of all.
use mathlib.Core.Path.{◌≡◌, refl}
use native.Mathlib.Omega.{arith}
use Rattle.terms.specs.Entry.{those}
use Rattle.journal.specs.Journal.{entries_to, oldest_of, day_of}
use Rattle.judge.proofs.Carries.{none_yet, oldest_is}
use Rattle.judge.proofs.carry.oldest_day.Goals as goal

pub loop-k-init : goal.loop-k-init
unfolding those entries_to
loop-k-init c = refl

pub returns-then-is_standing : goal.returns-then-is_standing
returns-then-is_standing c = oldest_is _ c.loop-k.k c.at-e.ensures c.is_standing.ensures c.loop-k.invariant _ c.loop-k-test.true c.if-is_standing.true

pub loop-k-preserved : goal.loop-k-preserved
loop-k-preserved c = none_yet _ c.loop-k.k c.at-e.ensures c.is_standing.ensures c.loop-k.invariant c.if-is_standing.false

pub returns : goal.returns
unfolding oldest_of day_of
returns c =
    let e : c.loop-k.k ≡ c.args.m = omega arith in
    rw (← e, c.loop-k.invariant)
